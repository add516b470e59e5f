-- The written forms of a load file, each one list of longwords. Layouts and block types are those
-- of The AmigaDOS Manual, 3rd edition, "Amiga binary file structure"; the layout of the short
-- relocation block, and which of the possible forms are written, is own.
use Rattle.std.specs.Prelude.{ℕ, ◌+◌, ◌-◌, ◌*◌, ◌^◌, ◌==◌, ◌≤◌, List, [], ◌∷◌, ◌++◌, length, map}
use Rattle.std.specs.List.{filter, flat_map, range_with_len}
use Rattle.hunk_words.specs.Files.{most_longwords}
use Rattle.hunk_base.specs.Longwords.{longwords}
use Rattle.hunk_base.specs.Name.{name_words}
use Rattle.hunk_words.specs.declared.kinds.HunkKind.{HunkKind}
use Rattle.hunk_words.specs.declared.kinds.HunkKind.TheVariants.{Code, Data, Bss}
use Rattle.hunk_words.specs.declared.kinds.Memory.{Memory}
use Rattle.hunk_words.specs.declared.kinds.Memory.TheVariants.{Any, Chip, Fast}
use Rattle.hunk_loadfile.specs.declared.load_form.LoadForm.{LoadForm}
use Rattle.hunk_loadfile.specs.declared.load_form.LoadForm.TheVariants.{Plain}
use Rattle.hunk_loadfile.specs.LoadForm.{long_sites, short_sites}
use Rattle.hunk_loadfile.specs.LoadHunk.{FileHunk}
use Rattle.hunk_loadfile.specs.Trimming.{trimmed}

-- the two bits above a size
abbrev pub memory_bits : Memory → ℕ
memory_bits Any = 0
memory_bits Chip = 1
memory_bits Fast = 2

abbrev pub size_word : FileHunk → ℕ
size_word hunk = memory_bits hunk.memory * 2 ^ 30 + hunk.size

-- The type, the number of hunks, the first and the last of them, and their sizes. No resident library is named.
abbrev pub header_words : List FileHunk → List ℕ
header_words hunks = 1011 ∷ 0 ∷ length hunks ∷ 0 ∷ (length hunks - 1) ∷ map size_word hunks

-- what a file has for a hunk of this kind and size, with its content in longwords
abbrev pub content_words : HunkKind → ℕ → List ℕ → List ℕ
content_words Code size ws = 1001 ∷ length ws ∷ ws
content_words Data size ws = 1002 ∷ length ws ∷ ws
content_words Bss size ws = 1003 ∷ size ∷ []

-- the offsets of the sites that name this hunk, in their order
abbrev pub offsets_to : ℕ → List (ℕ × ℕ) → List ℕ
offsets_to target sites = map (λ site. site.0) (filter (λ site. site.1 == target) sites)

-- a group of a relocation block, if there are offsets
abbrev pub group_words : ℕ → List ℕ → List ℕ
group_words target [] = []
group_words target (o ∷ os) = length (o ∷ os) ∷ target ∷ o ∷ os

-- the groups for each of the first `count` hunks, in ascending order
abbrev pub groups_words : ℕ → List (ℕ × ℕ) → List ℕ
groups_words count sites = flat_map (λ target. group_words target (offsets_to target sites)) (range_with_len 0 count)

-- the relocation block with 32-bit numbers, if there are sites
abbrev pub site_words : ℕ → List (ℕ × ℕ) → List ℕ
site_words count [] = []
site_words count (e ∷ es) = 1004 ∷ groups_words count (e ∷ es) ++ 0 ∷ []

-- 16-bit words as longwords, two in each, the first of them in its upper half; after an odd number of words one
-- of 0
abbrev pub paired : List ℕ → List ℕ
paired [] = []
paired (v ∷ []) = (v * 2 ^ 16) ∷ []
paired (v ∷ w ∷ ws) = (v * 2 ^ 16 + w) ∷ paired ws

-- the short relocation block, if there are sites
abbrev pub short_words : ℕ → List (ℕ × ℕ) → List ℕ
short_words count [] = []
short_words count (e ∷ es) = 1020 ∷ paired (groups_words count (e ∷ es) ++ 0 ∷ [])

-- both relocation blocks
abbrev pub relocation_words : LoadForm → ℕ → List (ℕ × ℕ) → List ℕ
relocation_words form count sites = short_words count (short_sites form sites) ++ site_words count (long_sites form sites)

-- a symbol: the length of its name, the name and the value
abbrev pub symbol_words : List ℕ × ℕ → List ℕ
symbol_words s = length (name_words s.0) ∷ name_words s.0 ++ s.1 ∷ []

-- the symbol block, if there are symbols
abbrev pub symbols_words : List (List ℕ × ℕ) → List ℕ
symbols_words [] = []
symbols_words (s ∷ ss) = 1008 ∷ flat_map symbol_words (s ∷ ss) ++ 0 ∷ []

-- a debug block
abbrev pub debug_words : List ℕ → List ℕ
debug_words ws = 1009 ∷ length ws ∷ ws

-- one of `count` hunks, including its END
abbrev pub hunk_words : LoadForm → ℕ → FileHunk → List ℕ
hunk_words form count hunk =
    content_words hunk.kind hunk.size (longwords hunk.content)
    ++ (relocation_words form count hunk.sites.entries ++ (symbols_words hunk.symbols ++ (flat_map debug_words hunk.debugs ++ 1010 ∷ [])))

-- the whole file in one of the forms
abbrev pub written_in : LoadForm → List FileHunk → List ℕ
written_in form hunks = header_words hunks ++ flat_map (hunk_words form (length hunks)) hunks

-- the whole file in the plain form
abbrev pub written_form : List FileHunk → List ℕ
written_form hunks = written_in Plain hunks

-- Neither form is longer than a file may be, and nor is it once the hunks are trimmed.
abbrev pub IsShortEnough : List FileHunk → Type 0
IsShortEnough hunks = (form : LoadForm) → (length (written_in form hunks) ≤ most_longwords) × (length (written_in form (trimmed hunks)) ≤ most_longwords)
