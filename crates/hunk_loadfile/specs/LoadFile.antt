-- The meaning of a load file: the value of its tree, as a list of hunks; and which longwords are
-- the file of which hunks.
use Rattle.std.specs.Prelude.{◌≡◌, ℕ, ◌*◌, List, [], ◌∷◌, length, map}
use Rattle.std.specs.BTreeMap.{insert_entry}
use Rattle.std.specs.Ordering.{nat_cmp}
use Rattle.hunk_words.specs.Kinds.{memory_of}
use Rattle.hunk_words.specs.Kinds.Within.{in_load}
use Rattle.hunk_words.specs.Trees.{LoadHunkTree, LoadTree}
use Rattle.hunk_words.specs.Values.{Adds, Hunk, hunk_value}
use Rattle.hunk_words.specs.Values.Adds.{to_hunk, to_reference}
use Rattle.hunk_base.specs.Name.{bytes_of, name_of}
use Rattle.hunk_words.specs.Files.{IsFileOf}
use Rattle.hunk_base.specs.Longwords.{longwords, IsWhole}
use Rattle.hunk_words.specs.declared.event.FileKind.TheVariants.{Load}
use Rattle.hunk_loadfile.specs.LoadHunk.{FileHunk}

-- One more site. In a load file none refers to a name.
abbrev pub with_site : List (ℕ × ℕ) → ℕ → Adds → List (ℕ × ℕ)
with_site sites o (to_hunk t) = insert_entry nat_cmp sites o t
with_site sites o (to_reference r) = sites

-- sites in file order, as a map
abbrev pub with_sites : List (ℕ × ℕ) → List (ℕ × Adds) → List (ℕ × ℕ)
with_sites sites [] = sites
with_sites sites (s ∷ ss) = with_sites (with_site sites s.0 s.1) ss

-- A hunk, with the memory and the size from the header. Its name and the size of a BSS block are
-- not kept.
abbrev pub file_hunk : ℕ → ℕ → Hunk → FileHunk
file_hunk bits size hunk = record {
  kind = hunk.kind;
  memory = memory_of bits;
  size = size;
  content = bytes_of hunk.content;
  sites = record { limit = 4 * size; entries = with_sites [] hunk.tables.sites };
  symbols = map (λ s. (name_of s.0, s.1)) hunk.tables.symbols;
  debugs = hunk.tables.debugs;
}

-- `last` is the number of the last hunk
abbrev pub load_hunk_value : ℕ → LoadHunkTree → FileHunk
load_hunk_value last t = file_hunk t.memory_bits t.size (hunk_value (in_load last t.size) t.hunk)

abbrev pub load_value : LoadTree → List FileHunk
load_value t = map (λ hunk. load_hunk_value (length t.others) hunk) (t.first ∷ t.others)

-- The longwords are the load file of these hunks.
pub record IsLoad (hunks : List FileHunk) (ws : List ℕ) : Type 0 where
  pub tree : LoadTree
  pub is_file : IsFileOf Load tree ws
  pub value : load_value tree ≡ hunks

-- The bytes are whole longwords, and these are the load file of these hunks.
pub record IsLoadOf (hunks : List FileHunk) (bytes : List ℕ) : Type 0 where
  pub whole : IsWhole bytes
  pub is_load : IsLoad hunks (longwords bytes)
