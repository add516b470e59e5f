-- Laws about load files, their written form, trimming and patching.
use Rattle.std.specs.Prelude.{◌≡◌, ℕ, ◌+◌, ◌*◌, ◌^◌, ◌<◌, ◌≤◌, List, length, Option, Some, None}
use Rattle.std.specs.List.{All, filter_map}
use Rattle.std.specs.Option.{option_map}
use Rattle.hunk_words.specs.Event.{events}
use Rattle.hunk_words.specs.Files.{most_longwords}
use Rattle.hunk_base.specs.Sites.{StandFrom}
use Rattle.hunk_words.specs.Spelling.{load_spelling, LoadFits}
use Rattle.hunk_words.specs.Trees.{LoadTree}
use Rattle.hunk_loadfile.specs.declared.load_form.LoadForm.{LoadForm}
use Rattle.hunk_loadfile.specs.declared.load_form.LoadForm.TheVariants.{Short}
use Rattle.hunk_loadfile.specs.LoadFile.{IsLoad, load_value}
use Rattle.hunk_loadfile.specs.LoadHunk.{FileHunk}
use Rattle.hunk_loadfile.specs.Partial.{partial}
use Rattle.hunk_loadfile.specs.Patching.{byte_or_zero, patched_bytes, site_over}
use Rattle.hunk_loadfile.specs.Rules.{IsLoadFile, IsLoadHunk, IsTyped, build_fault, carried_longwords, most_carried, most_hunks}
use Rattle.hunk_loadfile.specs.LoadForm.{short_sites}
use Rattle.hunk_loadfile.specs.Trimming.{trimmed_hunk}
use Rattle.hunk_loadfile.specs.WrittenForm.{IsShortEnough, groups_words, written_in}

-- ---- load files

-- Decoding is unambiguous: a list of longwords is the load file of one value at most.
abbrev pub OneLoad : Type 0
OneLoad = (one other : List FileHunk) (ws : List ℕ) → IsLoad one ws → IsLoad other ws → one ≡ other

-- Neither written form of a load file is longer than a file may be, if its symbols and debug blocks
-- are within the limit for hunks that are passed in.
abbrev pub WrittenIsShort : Type 0
WrittenIsShort = (form : LoadForm) (hunks : List FileHunk) → IsLoadFile hunks → carried_longwords hunks ≤ most_carried → length (written_in form hunks) ≤ most_longwords

-- Each written form of a load file is that file, if it is no longer than a file may be.
abbrev pub WrittenIsLoad : Type 0
WrittenIsLoad = (form : LoadForm) (hunks : List FileHunk) → IsLoadFile hunks → length (written_in form hunks) ≤ most_longwords → IsLoad hunks (written_in form hunks)

-- Neither written form of hunks that break no rule of a load file is longer than a file may be, and
-- nor is it once they are trimmed. What their types say about their bytes, sites and names holds of
-- all hunks that a program can pass in.
abbrev pub AcceptedIsShort : Type 0
AcceptedIsShort = (hunks : List FileHunk) → All IsTyped hunks → build_fault hunks ≡ None → IsShortEnough hunks

-- 16 bits hold every number of a short relocation block: how many sites a group has, its target and
-- its offsets.
abbrev pub ShortNumbersFit : Type 0
ShortNumbersFit = (count : ℕ) (hunk : FileHunk) → count ≤ most_hunks → IsLoadHunk count hunk → All (λ n. n < 2 ^ 16) (groups_words count (short_sites Short hunk.sites.entries))

-- After the events of a whole file the partial load file is that file.
abbrev pub WholeIsPartial : Type 0
WholeIsPartial = (t : LoadTree) → LoadFits t → partial (events (load_spelling t)) ≡ load_value t

-- ---- trimming

-- from this byte on, the content is zeros that no site includes
abbrev pub IsZeroFrom : FileHunk → ℕ → Type 0
IsZeroFrom hunk place =
    (i : ℕ) → place ≤ i → i < length hunk.content → (byte_or_zero hunk.content i ≡ 0) × (site_over hunk.sites.entries i ≡ None)

-- Trimming cuts only zeros that no site includes,
abbrev pub OnlyZerosAreTrimmed : Type 0
OnlyZerosAreTrimmed = (hunk : FileHunk) → IsZeroFrom hunk (length (trimmed_hunk hunk).content)

-- and no beginning of the content in whole longwords that has all other bytes is shorter.
abbrev pub TrimmedIsShortest : Type 0
TrimmedIsShortest = (hunk : FileHunk) (longwords : ℕ) → IsZeroFrom hunk (4 * longwords) → length (trimmed_hunk hunk).content ≤ 4 * longwords

-- ---- patching

-- the sites whose targets have a second part, with that part as their target
abbrev pub second_sites : {T U : Type 0} → (T → Option U) → List (ℕ × T) → List (ℕ × U)
second_sites part sites = filter_map (λ site. option_map (λ second. (site.0, second)) (part site.1)) sites

-- the addend of a second part, 0 if there is none
abbrev pub second_addend : {U : Type 0} → (U → ℕ) → Option U → ℕ
second_addend addend None = 0
second_addend addend (Some second) = addend second

-- At each site one number is added first, and then, if there is a second part, that part's.
abbrev pub PatchedTwice : (T U : Type 0) → Type 0
PatchedTwice T U =
    (content : List ℕ) (sites : List (ℕ × T)) (part : T → Option U) (first : T → ℕ) (second : U → ℕ) (count : ℕ) → StandFrom 0 (length content) sites
    → patched_bytes count (patched_bytes (length content) content sites first) (second_sites part sites) second
    ≡ patched_bytes count content sites (λ target. first target + second_addend second (part target))
