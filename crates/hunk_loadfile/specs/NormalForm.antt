-- The normal form of a load file: the least that a file can have for the same memory. It has no symbols
-- and no debug blocks, and of each content only the shortest beginning, in whole longwords, after which all
-- bytes are 0. Unlike trimming, it cuts zeros at sites too: a loader adds to them after the end of the
-- content as well.
use Rattle.std.specs.Prelude.{ℕ, List, [], map, take}
use Rattle.hunk_loadfile.specs.LoadHunk.{FileHunk}
use Rattle.hunk_loadfile.specs.Stripping.{stripped_hunk}
use Rattle.hunk_loadfile.specs.Trimming.{kept_length}

-- the bytes up to the last longword that is not 0: what is kept where there are no sites
abbrev pub nonzero_length : List ℕ → ℕ
nonzero_length content = kept_length {T = ℕ} content []

abbrev pub normal_hunk : FileHunk → FileHunk
normal_hunk hunk = record (stripped_hunk hunk) { content = take (nonzero_length hunk.content) hunk.content }

abbrev pub normal_form : List FileHunk → List FileHunk
normal_form hunks = map normal_hunk hunks
