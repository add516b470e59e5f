-- Content without the zeros at its end that memory has without it: a hunk is zeros after its content,
-- up to its size (The AmigaDOS Manual, 3rd edition, "Amiga binary file structure"). That the bytes of
-- sites stay is a rule of our own.
use Rattle.std.specs.Prelude.{ℕ, zero, suc, ◌+◌, ◌*◌, ◌/◌, ◌==◌, Bool, not, ◌||◌, if◌then◌else◌, List, length, map, take}
use Rattle.std.specs.Option.{is_some}
use Rattle.hunk_loadfile.specs.LoadHunk.{FileHunk}
use Rattle.hunk_loadfile.specs.Patching.{byte_or_zero, site_over}

-- byte i of the content is not zero, or a site includes it
abbrev pub is_kept : {T : Type 0} → List ℕ → List (ℕ × T) → ℕ → Bool
is_kept content sites i = not (byte_or_zero content i == 0) || is_some (site_over sites i)

-- the place after the last of the first n bytes that is kept, 0 if none of them is
abbrev pub kept_end : (ℕ → Bool) → ℕ → ℕ
kept_end kept zero = 0
kept_end kept (suc n) = if kept n then suc n else kept_end kept n

-- the bytes of the content up to there, in whole longwords
abbrev pub kept_length : {T : Type 0} → List ℕ → List (ℕ × T) → ℕ
kept_length content sites = 4 * ((kept_end (is_kept content sites) (length content) + 3) / 4)

-- The hunk with that much of its content. Its size in memory stays.
abbrev pub trimmed_hunk : FileHunk → FileHunk
trimmed_hunk hunk = record hunk { content = take (kept_length hunk.content hunk.sites.entries) hunk.content }

abbrev pub trimmed : List FileHunk → List FileHunk
trimmed hunks = map trimmed_hunk hunks
