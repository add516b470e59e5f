-- Load files without what only debuggers read.
use Rattle.std.specs.Prelude.{List, [], map}
use Rattle.hunk_loadfile.specs.LoadHunk.{FileHunk}

-- the hunk without its symbols and debug blocks
abbrev pub stripped_hunk : FileHunk → FileHunk
stripped_hunk hunk = record hunk { symbols = []; debugs = [] }

abbrev pub stripped : List FileHunk → List FileHunk
stripped hunks = map stripped_hunk hunks
