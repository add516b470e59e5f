-- The lines of the units of an object file, together with the longwords of the names of its units
-- and hunks and of the contents of its hunks, are no more than the longwords of the file.
use Rattle.std.proofs.Common.{ℕ, ◌+◌, ◌*◌, ◌^◌, ◌<◌, ◌≤◌, List, [], ◌∷◌, length, map, sum_by, Option, Some, None, arith}
use Rattle.std.specs.List.{AllByRecursion}
use Rattle.std.proofs.lemmas.List.Sums.{sum_by-cons}
use Rattle.hunk_words.specs.Kinds.{Kind, Field}
use Rattle.hunk_words.specs.Kinds.Within.{in_unit}
use Rattle.hunk_words.specs.Kinds.Kind.{object_start, unit_type, content_type}
use Rattle.hunk_words.specs.FaultTable.{AllPass}
use Rattle.hunk_words.specs.Spelling.{blocks_end, body, content_then, hunk_at, object_spelling, unit_at, unit_hunks, units}
use Rattle.hunk_words.specs.Trees.{BlockTree, BodyTree, ContentTree, HunkTree, NameTree, ObjectTree, UnitTree}
use Rattle.hunk_words.specs.Trees.ContentTree.{code_tree, data_tree, bss_tree}
use Rattle.hunk_words.specs.Values.{Hunk, Part, content_value, hunk_value, name_words, object_value, tables_of_blocks, unit_value}
use Rattle.hunk_words.specs.declared.kinds.HunkKind.{HunkKind}
use Rattle.hunk_words.specs.declared.kinds.HunkKind.TheVariants.{Code, Data}
use Rattle.hunk_words.proofs.EventValueLemmas.{stored}
use Rattle.hunk_words.proofs.SpellingBitLemmas.{joined_bits-lower}
use Rattle.hunk_loadfile.proofs.LoadFileSpellingLemmas.{long_count}
use Rattle.hunk_text.proofs.ListingSizeTablesLemmas.{TablesFit, line_count, tells-blocks, words-each}

-- ---- hunks

-- A hunk whose size and tables can be printed. Its name has any length.
pub record HunkFits (h : Hunk) : Type 0 where
  pub size : h.size < 2 ^ 32
  pub tables : TablesFit h.tables

-- its lines, and the longwords of its name and of its content
abbrev pub hunk_lines : Hunk → ℕ
hunk_lines h = 1 + length h.name + length h.content + line_count h.tables

-- The fields before begin with a hunk that fits, except for `named` longwords of its name, and the
-- rest passes too.
record Ended (h : Hunk) (named : ℕ) (rest before : List Field) : Type 0 where
  hunk : HunkFits h
  pass : AllPass rest
  count : hunk_lines h + long_count rest ≤ named + long_count before

ended-field : (h : Hunk) (named : ℕ) (rest : List Field) (f : Field) (fs : List Field) → Ended h named rest fs → Ended h named rest (f ∷ fs)
ended-field h named rest f fs is = record { hunk = is.hunk; pass = is.pass; count = omega (arith, is.count) }

-- the size of CODE or DATA, its words, and what follows them
ended-stored : (y : HunkKind) (m c : ℕ) (ws : List ℕ) (xs : List BlockTree) (b : ℕ) (name : List ℕ) (rest : List Field) → AllPass (stored in_unit y m c ws xs b rest)
    → Ended (record { name = name; kind = y; memory = m; size = length ws; content = ws; tables = tables_of_blocks 0 xs }) (length name) rest (stored in_unit y m c ws xs b rest)
ended-stored y m c ws xs b name rest p =
    let words = words-each ws (blocks_end in_unit (4 * length ws) xs b rest) p.1 in
    let behind = tells-blocks (4 * length ws) 0 xs b rest words.pass in
    let size = joined_bits-lower (2 ^ 30) c (length ws) p.0.fits in
    record { hunk = record { size = omega (arith, size); tables = behind.told }; pass = behind.pass; count = omega (arith, words.count, behind.count) }

ended-content : (k : Kind) (x : ContentTree) (xs : List BlockTree) (b : ℕ) (name : List ℕ) (rest : List Field) → AllPass (content_then k in_unit x xs b rest)
    → Ended (content_value in_unit name (tables_of_blocks 0 xs) x) (length name) rest (content_then k in_unit x xs b rest)
ended-content k (code_tree t c ws) xs b name rest p = ended-field _ (length name) rest _ _ (ended-stored Code t c ws xs b name rest p.1)
ended-content k (data_tree t c ws) xs b name rest p = ended-field _ (length name) rest _ _ (ended-stored Data t c ws xs b name rest p.1)
ended-content k (bss_tree t c n) xs b name rest p =
    let behind = tells-blocks 0 0 xs b rest p.1.1 in
    let size = joined_bits-lower (2 ^ 30) c n p.1.0.fits in
    record { hunk = record { size = omega (arith, size); tables = behind.told }; pass = behind.pass; count = omega (arith, behind.count) }

ended-hunk : (k : Kind) (name : Option NameTree) (t : BodyTree) (rest : List Field) → AllPass (hunk_at k in_unit name t rest)
    → Ended (content_value in_unit (name_words name) (tables_of_blocks 0 t.blocks) t.content) 0 rest (hunk_at k in_unit name t rest)
ended-hunk k None t rest p = ended-content k t.content t.blocks t.end_bits [] rest p
ended-hunk k (Some name) t rest p =
    let words = words-each name.words (body (content_type in_unit) in_unit t rest) p.1.1 in
    let behind = ended-content (content_type in_unit) t.content t.blocks t.end_bits name.words rest words.pass in
    record { hunk = behind.hunk; pass = behind.pass; count = omega (arith, words.count, behind.count) }

-- likewise with hunks, and with their whole names
record HunksEnded (hs : List Hunk) (rest before : List Field) : Type 0 where
  hunks : AllByRecursion HunkFits hs
  pass : AllPass rest
  count : sum_by hunk_lines hs + long_count rest ≤ long_count before

ended-hunks : (ts : List HunkTree) (rest : List Field) → AllPass (unit_hunks ts rest) → HunksEnded (map (λ t. hunk_value in_unit t) ts) rest (unit_hunks ts rest)
ended-hunks [] rest p = record { hunks = tt; pass = p; count = omega arith }
ended-hunks (t ∷ ts) rest p =
    let here = ended-hunk unit_type t.name t.body (unit_hunks ts rest) p in
    let behind = ended-hunks ts rest here.pass in
    record { hunks = (here.hunk, behind.hunks); pass = behind.pass; count = omega (arith, here.count, behind.count, sum_by-cons hunk_lines (hunk_value in_unit t) (map (λ u. hunk_value in_unit u) ts)) }

-- ---- units

-- the lines of a unit, and the longwords of its name and of those of its hunks, and of their contents
abbrev pub part_lines : Part → ℕ
part_lines p = 1 + length p.name + sum_by hunk_lines p.hunks

abbrev pub PartFits : Part → Type 0
PartFits p = AllByRecursion HunkFits p.hunks

-- likewise with a unit
record UnitEnded (p : Part) (rest before : List Field) : Type 0 where
  part : PartFits p
  pass : AllPass rest
  count : part_lines p + long_count rest ≤ long_count before

ended-unit : (k : Kind) (u : UnitTree) (rest : List Field) → AllPass (unit_at k u rest) → UnitEnded (unit_value u) rest (unit_at k u rest)
ended-unit k u rest p =
    let words = words-each u.name (unit_hunks u.hunks rest) p.1.1 in
    let behind = ended-hunks u.hunks rest words.pass in
    record { part = behind.hunks; pass = behind.pass; count = omega (arith, words.count, behind.count) }

-- all units of a file, which take at most this many longwords
pub record PartsFit (ps : List Part) (most : ℕ) : Type 0 where
  pub parts : AllByRecursion PartFits ps
  pub count : sum_by part_lines ps ≤ most

ended-units : (us : List UnitTree) → AllPass (units us []) → PartsFit (map (λ u. unit_value u) us) (long_count (units us []))
ended-units [] p = record { parts = tt; count = omega arith }
ended-units (u ∷ us) p =
    let here = ended-unit unit_type u (units us []) p in
    let behind = ended-units us here.pass in
    record { parts = (here.part, behind.parts); count = omega (arith, here.count, behind.count, sum_by-cons part_lines (unit_value u) (map (λ v. unit_value v) us)) }

pub ended-object : (t : ObjectTree) → AllPass (object_spelling t) → PartsFit (object_value t) (long_count (object_spelling t))
ended-object t p =
    let here = ended-unit object_start t.first (units t.others []) p in
    let behind = ended-units t.others here.pass in
    record { parts = (here.part, behind.parts); count = omega (arith, here.count, behind.count, sum_by-cons part_lines (unit_value t.first) (map (λ v. unit_value v) t.others)) }
