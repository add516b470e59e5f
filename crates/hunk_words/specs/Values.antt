-- The meaning of a file: the value of a tree.
use Rattle.std.specs.Prelude.{ℕ, suc, ◌+◌, List, [], ◌∷◌, ◌++◌, length, map, Option, Some, None}
use Rattle.hunk_words.specs.Kinds.{Within, content_bits}
use Rattle.hunk_words.specs.Kinds.Within.{in_unit, in_load}
use Rattle.hunk_words.specs.Trees.{Group, ExtTree, SymbolTree, BlockTree, ContentTree, NameTree, HunkTree, UnitTree, ObjectTree, LoadHunkTree, LoadTree}
use Rattle.hunk_words.specs.Trees.ExtTree.{ext_def, ext_abs, ext_ref}
use Rattle.hunk_words.specs.Trees.BlockTree.{reloc_tree, short_tree, ext_tree, symbol_tree, debug_tree}
use Rattle.hunk_words.specs.Trees.ContentTree.{code_tree, data_tree, bss_tree}
use Rattle.hunk_words.specs.declared.kinds.HunkKind.{HunkKind}
use Rattle.hunk_words.specs.declared.kinds.HunkKind.TheVariants.{Code, Data, Bss}

-- a site adds the base of a hunk, or the value of a reference of its own hunk
pub data Adds : Type 0 where
  to_hunk : ℕ → Adds
  to_reference : ℕ → Adds

-- what a name is defined as: an offset in its hunk, or a number
pub data Definition : Type 0 where
  offset_at : ℕ → Definition
  absolute_at : ℕ → Definition

-- What the blocks after a hunk's content contain, each list in file order. Names are longwords
-- here.
pub record HunkTables : Type 0 where
  pub sites : List (ℕ × Adds)
  pub references : List (List ℕ)
  pub definitions : List (List ℕ × Definition)
  pub symbols : List (List ℕ × ℕ)
  pub debugs : List (List ℕ)

abbrev pub no_tables : HunkTables
no_tables = record { sites = []; references = []; definitions = []; symbols = []; debugs = [] }

abbrev pub merged : HunkTables → HunkTables → HunkTables
merged a b = record { sites = a.sites ++ b.sites; references = a.references ++ b.references; definitions = a.definitions ++ b.definitions; symbols = a.symbols ++ b.symbols; debugs = a.debugs ++ b.debugs }

-- A hunk, with its name in longwords (a load file's is dropped later), its memory bits and its size in longwords.
pub record Hunk : Type 0 where
  pub name : List ℕ
  pub kind : HunkKind
  pub memory : ℕ
  pub size : ℕ
  pub content : List ℕ
  pub tables : HunkTables

abbrev pub empty : Hunk
empty = record { name = []; kind = Bss; memory = 0; size = 0; content = []; tables = no_tables }

abbrev pub with_tables : Hunk → HunkTables → Hunk
with_tables hunk t = record hunk { tables = merged hunk.tables t }

-- a program unit; or a whole load file, without a name
pub record Part : Type 0 where
  pub name : List ℕ
  pub hunks : List Hunk

abbrev pub one_site : ℕ → Adds → HunkTables
one_site o a = record { sites = (o, a) ∷ []; references = []; definitions = []; symbols = []; debugs = [] }

abbrev pub one_reference : List ℕ → HunkTables
one_reference ws = record { sites = []; references = ws ∷ []; definitions = []; symbols = []; debugs = [] }

abbrev pub one_definition : List ℕ → Definition → HunkTables
one_definition ws d = record { sites = []; references = []; definitions = (ws, d) ∷ []; symbols = []; debugs = [] }

abbrev pub one_symbol : List ℕ → ℕ → HunkTables
one_symbol ws v = record { sites = []; references = []; definitions = []; symbols = (ws, v) ∷ []; debugs = [] }

abbrev pub one_debug : List ℕ → HunkTables
one_debug ws = record { sites = []; references = []; definitions = []; symbols = []; debugs = ws ∷ [] }

-- ---- of a tree

abbrev pub tables_of_sites : List ℕ → Adds → HunkTables
tables_of_sites [] a = no_tables
tables_of_sites (o ∷ os) a = merged (one_site o a) (tables_of_sites os a)

abbrev pub tables_of_groups : List Group → HunkTables
tables_of_groups [] = no_tables
tables_of_groups (g ∷ gs) = merged (tables_of_sites (g.first ∷ g.others) (to_hunk g.target)) (tables_of_groups gs)

-- r is the number of earlier references. An ext_ref32 without offsets is dropped (own).
abbrev pub tables_of_entries : ℕ → List ExtTree → HunkTables
tables_of_entries r [] = no_tables
tables_of_entries r (ext_def n o ∷ es) = merged (one_definition n (offset_at o)) (tables_of_entries r es)
tables_of_entries r (ext_abs n v ∷ es) = merged (one_definition n (absolute_at v)) (tables_of_entries r es)
tables_of_entries r (ext_ref n [] ∷ es) = tables_of_entries r es
tables_of_entries r (ext_ref n (o ∷ os) ∷ es) = merged (one_reference n) (merged (tables_of_sites (o ∷ os) (to_reference r)) (tables_of_entries (suc r) es))

abbrev pub tables_of_symbols : List SymbolTree → HunkTables
tables_of_symbols [] = no_tables
tables_of_symbols (x ∷ xs) = merged (one_symbol (x.first ∷ x.others) x.amount) (tables_of_symbols xs)

-- what a block contains, with r earlier references in its hunk
abbrev pub tables_of_block : ℕ → BlockTree → HunkTables
tables_of_block r (reloc_tree b gs) = tables_of_groups gs
tables_of_block r (short_tree b gs pad) = tables_of_groups gs
tables_of_block r (ext_tree b es) = tables_of_entries r es
tables_of_block r (symbol_tree b xs) = tables_of_symbols xs
tables_of_block r (debug_tree b ws) = one_debug ws

abbrev pub tables_of_blocks : ℕ → List BlockTree → HunkTables
tables_of_blocks r [] = no_tables
tables_of_blocks r (x ∷ xs) = merged (tables_of_block r x) (tables_of_blocks (r + length (tables_of_block r x).references) xs)

abbrev pub name_words : Option NameTree → List ℕ
name_words None = []
name_words (Some n) = n.words

abbrev pub content_value : Within → List ℕ → HunkTables → ContentTree → Hunk
content_value w n t (code_tree b c ws) = record { name = n; kind = Code; memory = content_bits w b; size = length ws; content = ws; tables = t }
content_value w n t (data_tree b c ws) = record { name = n; kind = Data; memory = content_bits w b; size = length ws; content = ws; tables = t }
content_value w n t (bss_tree b c size) = record { name = n; kind = Bss; memory = content_bits w b; size = size; content = []; tables = t }

abbrev pub hunk_value : Within → HunkTree → Hunk
hunk_value w t = content_value w (name_words t.name) (tables_of_blocks 0 t.body.blocks) t.body.content

abbrev pub unit_value : UnitTree → Part
unit_value u = record { name = u.name; hunks = map (λ t. hunk_value in_unit t) u.hunks }

abbrev pub object_value : ObjectTree → List Part
object_value t = map (λ u. unit_value u) (t.first ∷ t.others)

-- the memory bits and sizes in the header
abbrev pub load_sizes : LoadTree → List (ℕ × ℕ)
load_sizes t = map (λ hunk. (hunk.memory_bits, hunk.size)) (t.first ∷ t.others)

-- the hunks of a load file, with the number of the last one
abbrev pub load_hunk_values : ℕ → List LoadHunkTree → List Hunk
load_hunk_values last hs = map (λ hunk. hunk_value (in_load last hunk.size) hunk.hunk) hs
