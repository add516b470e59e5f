-- The sizes of the hunks of a load file.
use Rattle.std.specs.Prelude.{ℕ, List, map}
use Rattle.hunk_loadfile.specs.LoadHunk.{FileHunk}

-- in longwords
abbrev pub sizes_of : List FileHunk → List ℕ
sizes_of hunks = map (λ hunk. hunk.size) hunks
