-- The tree of a file: everything in it that is not determined by the rest, including what is
-- ignored, so that a file's longwords and its tree determine each other. Counts are the lengths of
-- lists.
use Rattle.std.specs.Prelude.{ℕ, List, Option}

-- a group of a relocation block: a target and at least one offset
pub record Group : Type 0 where
  pub target : ℕ
  pub first : ℕ
  pub others : List ℕ

pub data ExtTree : Type 0 where
  ext_def : (name : List ℕ) (offset : ℕ) → ExtTree
  ext_abs : (name : List ℕ) (value : ℕ) → ExtTree
  ext_ref : (name : List ℕ) (offsets : List ℕ) → ExtTree

pub record SymbolTree : Type 0 where
  pub first : ℕ
  pub others : List ℕ
  pub amount : ℕ

-- A block after the content, with the ignored bits of its type longword. If the number of words of
-- a short block is even, its pad isn't spelled.
pub data BlockTree : Type 0 where
  reloc_tree : (type_bits : ℕ) → List Group → BlockTree
  short_tree : (type_bits : ℕ) → List Group → (pad : ℕ) → BlockTree
  ext_tree : (type_bits : ℕ) → List ExtTree → BlockTree
  symbol_tree : (type_bits : ℕ) → List SymbolTree → BlockTree
  debug_tree : (type_bits : ℕ) → List ℕ → BlockTree

pub data ContentTree : Type 0 where
  code_tree : (type_bits size_bits : ℕ) → List ℕ → ContentTree
  data_tree : (type_bits size_bits : ℕ) → List ℕ → ContentTree
  bss_tree : (type_bits size_bits size : ℕ) → ContentTree

pub record BodyTree : Type 0 where
  pub content : ContentTree
  pub blocks : List BlockTree
  pub end_bits : ℕ

pub record NameTree : Type 0 where
  pub type_bits : ℕ
  pub words : List ℕ

pub record HunkTree : Type 0 where
  pub name : Option NameTree
  pub body : BodyTree

pub record UnitTree : Type 0 where
  pub type_bits : ℕ
  pub name : List ℕ
  pub hunks : List HunkTree

pub record ObjectTree : Type 0 where
  pub first : UnitTree
  pub others : List UnitTree

pub record LoadHunkTree : Type 0 where
  pub memory_bits : ℕ
  pub size : ℕ
  pub hunk : HunkTree

pub record LoadTree : Type 0 where
  pub type_bits : ℕ
  pub first : LoadHunkTree
  pub others : List LoadHunkTree
