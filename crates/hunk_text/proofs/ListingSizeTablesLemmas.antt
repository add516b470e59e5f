-- The sites, definitions, symbols and debug blocks of a hunk in an object file are no more than the
-- longwords of its blocks, and each of their names has fewer than 2^24 longwords.
use Rattle.std.proofs.Common.{◌≡◌, ℕ, suc, ◌+◌, ◌^◌, ◌<◌, ◌≤◌, true, false, List, [], ◌∷◌, ◌++◌, length, refl, subst, arith}
use Rattle.std.specs.List.{AllByRecursion}
use Rattle.std.proofs.lemmas.List.{length-append}
use Rattle.std.proofs.lemmas.List.Elements.{All-append, All-from_recursion, recursion_from_All}
use Rattle.hunk_words.specs.Kinds.{Kind, Field, field, low, type_of, entry_type}
use Rattle.hunk_words.specs.Kinds.Within.{in_unit}
use Rattle.hunk_words.specs.Kinds.Kind.{block_type, word, value, ext_entry, offset, ref_count, ref_offset}
use Rattle.hunk_words.specs.FaultTable.{Passes, AllPass, may_follow, refused_type}
use Rattle.hunk_words.specs.Spelling.{block, blocks_end, each, entries, groups, joined_bits, symbols, type_longword}
use Rattle.hunk_words.specs.Trees.{BlockTree, ExtTree, Group, SymbolTree}
use Rattle.hunk_words.specs.Trees.ExtTree.{ext_def, ext_abs, ext_ref}
use Rattle.hunk_words.specs.Trees.BlockTree.{reloc_tree, short_tree, ext_tree, symbol_tree, debug_tree}
use Rattle.hunk_words.specs.Values.{Adds, Definition, HunkTables, merged, no_tables, one_definition, one_reference, one_site, one_symbol, tables_of_block, tables_of_blocks, tables_of_entries, tables_of_groups, tables_of_sites, tables_of_symbols}
use Rattle.hunk_words.specs.Values.Adds.{to_hunk, to_reference}
use Rattle.hunk_words.specs.Values.Definition.{offset_at, absolute_at}
use Rattle.hunk_base.specs.declared.fault.Reason.TheVariants.{SymbolKind}
use Rattle.hunk_words.specs.declared.kinds.BlockType.{BlockType}
use Rattle.hunk_words.specs.declared.kinds.BlockType.TheVariants.{Short as short}
use Rattle.hunk_words.proofs.FaultTableLemmas.{reject_unless-none, reject_unless-number}
use Rattle.hunk_words.proofs.KindsTypeLemmas.{type-short}
use Rattle.hunk_words.proofs.SpellingBitLemmas.{joined_bits-lower, type_longword-type}
use Rattle.hunk_loadfile.proofs.LoadFileSpellingLemmas.{long_count}

-- ---- the tables of a hunk

-- the number of a hunk is a longword
abbrev pub TargetFits : Adds → Type 0
TargetFits (to_hunk number) = number < 2 ^ 32
TargetFits (to_reference index) = Unit {0}

abbrev pub SiteFits : ℕ × Adds → Type 0
SiteFits site = TargetFits site.1

-- a name whose longwords are counted in 24 bits
abbrev pub NameFits : List ℕ → Type 0
NameFits name = length name < 2 ^ 24

abbrev pub NamedFits : {X : Type 0} → List ℕ × X → Type 0
NamedFits named = NameFits named.0

-- the longwords of a debug block are counted by one
abbrev pub DebugFits : List ℕ → Type 0
DebugFits words = length words < 2 ^ 32

-- tables with such sites, names and debug blocks
pub record TablesFit (t : HunkTables) : Type 0 where
  pub sites : AllByRecursion SiteFits t.sites
  pub references : AllByRecursion NameFits t.references
  pub definitions : AllByRecursion NamedFits t.definitions
  pub symbols : AllByRecursion NamedFits t.symbols
  pub debugs : AllByRecursion DebugFits t.debugs

-- a line for each of these
abbrev pub line_count : HunkTables → ℕ
line_count t = length t.sites + length t.definitions + length t.symbols + length t.debugs

recursion-append : {X : Type 0} (P : X → Type 0) (xs ys : List X) → AllByRecursion P xs → AllByRecursion P ys → AllByRecursion P (xs ++ ys)
recursion-append P xs ys a b = recursion_from_All P (xs ++ ys) (All-append P xs ys (All-from_recursion P xs a) (All-from_recursion P ys b))

TablesFit-merged : (a b : HunkTables) → TablesFit a → TablesFit b → TablesFit (merged a b)
TablesFit-merged a b x y = record {
  sites = recursion-append SiteFits a.sites b.sites x.sites y.sites;
  references = recursion-append NameFits a.references b.references x.references y.references;
  definitions = recursion-append NamedFits a.definitions b.definitions x.definitions y.definitions;
  symbols = recursion-append NamedFits a.symbols b.symbols x.symbols y.symbols;
  debugs = recursion-append DebugFits a.debugs b.debugs x.debugs y.debugs;
}

line_count-merged : (a b : HunkTables) → line_count (merged a b) ≡ line_count a + line_count b
line_count-merged a b =
    omega (arith, length-append a.sites b.sites, length-append a.definitions b.definitions, length-append a.symbols b.symbols, length-append a.debugs b.debugs)

-- ---- blocks

-- The fields before begin with some that mean these tables, and the rest passes too.
pub record Tells (t : HunkTables) (rest before : List Field) : Type 0 where
  pub told : TablesFit t
  pub pass : AllPass rest
  pub count : line_count t + long_count rest ≤ long_count before

tells-none : (rest : List Field) → AllPass rest → Tells no_tables rest rest
tells-none rest p = record { told = record { sites = tt; references = tt; definitions = tt; symbols = tt; debugs = tt }; pass = p; count = omega arith }

-- one more field, which adds nothing
tells-field : (t : HunkTables) (rest : List Field) (f : Field) (fs : List Field) → Tells t rest fs → Tells t rest (f ∷ fs)
tells-field t rest f fs h = record { told = h.told; pass = h.pass; count = omega (arith, h.count) }

tells-merged : (a b : HunkTables) (rest between before : List Field) → Tells a between before → Tells b rest between → Tells (merged a b) rest before
tells-merged a b rest between before x y =
    record { told = TablesFit-merged a b x.told y.told; pass = y.pass; count = omega (arith, line_count-merged a b, x.count, y.count) }

-- a field of this kind takes a longword of its own
abbrev IsLong : Kind → Type 0
IsLong k = (n : ℕ) (fs : List Field) → long_count (field k n ∷ fs) ≡ 1 + long_count fs

-- the offsets of sites that add this
tells-offsets : (k : Kind) (adds : Adds) (ns : List ℕ) (rest : List Field) → IsLong k → TargetFits adds → AllPass (each k ns rest) → Tells (tables_of_sites ns adds) rest (each k ns rest)
tells-offsets k adds [] rest long fits p = tells-none rest p
tells-offsets k adds (n ∷ ns) rest long fits p =
    let behind = each k ns rest in
    let here : Tells (one_site n adds) behind (field k n ∷ behind) =
    record { told = record { sites = (fits, tt); references = tt; definitions = tt; symbols = tt; debugs = tt }; pass = p.1; count = omega (arith, long n behind) } in
    tells-merged (one_site n adds) (tables_of_sites ns adds) rest behind _ here (tells-offsets k adds ns rest long fits p.1)

tells-groups : (limit : ℕ) (gs : List Group) (rest : List Field) → AllPass (groups in_unit limit gs rest) → Tells (tables_of_groups gs) rest (groups in_unit limit gs rest)
tells-groups limit [] rest p = tells-field no_tables rest _ rest (tells-none rest p.1)
tells-groups limit (g ∷ gs) rest p =
    let sites = tables_of_sites (g.first ∷ g.others) (to_hunk g.target) in
    let behind = groups in_unit limit gs rest in
    let here = tells-offsets (offset limit g.target) (to_hunk g.target) (g.first ∷ g.others) behind (λ n fs. refl) p.1.0.fits p.1.1 in
    let counted = tells-field sites behind _ _ (tells-field sites behind _ _ here) in
    tells-merged sites (tables_of_groups gs) rest behind _ counted (tells-groups limit gs rest here.pass)

-- words, and what comes after them
pub record Words (ws : List ℕ) (rest : List Field) : Type 0 where
  pub pass : AllPass rest
  pub count : length ws + long_count rest ≡ long_count (each word ws rest)

pub words-each : (ws : List ℕ) (rest : List Field) → AllPass (each word ws rest) → Words ws rest
words-each [] rest p = record { pass = p; count = omega arith }
words-each (w ∷ ws) rest p = let behind = words-each ws rest p.1 in record { pass = behind.pass; count = omega (arith, behind.count) }

-- an entry's first longword and its name
abbrev entry : (limit type : ℕ) → List ℕ → List Field → List Field
entry limit type name rest = field (ext_entry limit) (joined_bits (2 ^ 24) type (length name)) ∷ each word name rest

tells-definition : (limit type : ℕ) (name : List ℕ) (d : Definition) (n : ℕ) (rest : List Field) → AllPass (entry limit type name (field value n ∷ rest))
    → Tells (one_definition name d) rest (entry limit type name (field value n ∷ rest))
tells-definition limit type name d n rest p =
    let words = words-each name (field value n ∷ rest) p.1 in
    record {
      told = record { sites = tt; references = tt; definitions = (joined_bits-lower (2 ^ 24) type (length name) p.0.fits, tt); symbols = tt; debugs = tt };
      pass = words.pass.1;
      count = omega (arith, words.count);
    }

tells-reference : (limit : ℕ) (name : List ℕ) (n : ℕ) (rest : List Field) → AllPass (entry limit 129 name (field (ref_count limit) n ∷ rest))
    → Tells (one_reference name) rest (entry limit 129 name (field (ref_count limit) n ∷ rest))
tells-reference limit name n rest p =
    let words = words-each name (field (ref_count limit) n ∷ rest) p.1 in
    record {
      told = record { sites = tt; references = (joined_bits-lower (2 ^ 24) 129 (length name) p.0.fits, tt); definitions = tt; symbols = tt; debugs = tt };
      pass = words.pass.1;
      count = omega (arith, words.count);
    }

tells-entries : (limit r : ℕ) (es : List ExtTree) (rest : List Field) → AllPass (entries limit es rest) → Tells (tables_of_entries r es) rest (entries limit es rest)
tells-entries limit r [] rest p = tells-field no_tables rest _ rest (tells-none rest p.1)
tells-entries limit r (ext_def name at ∷ es) rest p =
    let here = tells-definition limit 1 name (offset_at at) at (entries limit es rest) p in
    tells-merged (one_definition name (offset_at at)) (tables_of_entries r es) rest _ _ here (tells-entries limit r es rest here.pass)
tells-entries limit r (ext_abs name amount ∷ es) rest p =
    let here = tells-definition limit 2 name (absolute_at amount) amount (entries limit es rest) p in
    tells-merged (one_definition name (absolute_at amount)) (tables_of_entries r es) rest _ _ here (tells-entries limit r es rest here.pass)
tells-entries limit r (ext_ref name [] ∷ es) rest p =
    let here = tells-reference limit name 0 (entries limit es rest) p in
    let behind = tells-entries limit r es rest here.pass in
    record { told = behind.told; pass = behind.pass; count = omega (arith, here.count, behind.count) }
tells-entries limit r (ext_ref name (o ∷ os) ∷ es) rest p =
    let sites = tables_of_sites (o ∷ os) (to_reference r) in
    let more = tables_of_entries (suc r) es in
    let here = tells-reference limit name (suc (length os)) (each (ref_offset limit) (o ∷ os) (entries limit es rest)) p in
    let offsets = tells-offsets (ref_offset limit) (to_reference r) (o ∷ os) (entries limit es rest) (λ n fs. refl) tt here.pass in
    tells-merged (one_reference name) (merged sites more) rest _ _ here (tells-merged sites more rest _ _ offsets (tells-entries limit (suc r) es rest offsets.pass))

tells-symbols : (xs : List SymbolTree) (rest : List Field) → AllPass (symbols xs rest) → Tells (tables_of_symbols xs) rest (symbols xs rest)
tells-symbols [] rest p = tells-field no_tables rest _ rest (tells-none rest p.1)
tells-symbols (x ∷ xs) rest p =
    let name = x.first ∷ x.others in
    let behind = symbols xs rest in
    let words = words-each name (field value x.amount ∷ behind) p.1 in
    let kind : entry_type (suc (length x.others)) ≡ 0 = reject_unless-number (entry_type (suc (length x.others))) 0 (SymbolKind (entry_type (suc (length x.others)))) p.0.passes in
    let fits : NameFits name = omega (arith, kind) in
    let here : Tells (one_symbol name x.amount) behind (symbols (x ∷ xs) rest) =
    record { told = record { sites = tt; references = tt; definitions = tt; symbols = (fits, tt); debugs = tt }; pass = words.pass.1; count = omega (arith, words.count) } in
    tells-merged (one_symbol name x.amount) (tables_of_symbols xs) rest behind _ here (tells-symbols xs rest here.pass)

-- there is no relocation block of 16 bits in a unit
no-short : (limit b : ℕ) → Passes (block_type in_unit limit) (type_longword b 1020) → ⊥
no-short limit b p =
    let t : BlockType = type_of (low (type_longword b 1020)) in
    let follows = reject_unless-none (may_follow in_unit t) (refused_type false t (low (type_longword b 1020))) p.passes in
    let wrong : may_follow in_unit short ≡ true = subst (λ q. may_follow in_unit q ≡ true) (type_longword-type b 1020 type-short p.fits) follows in
    cc

tells-block : (limit r : ℕ) (x : BlockTree) (rest : List Field) → AllPass (block in_unit limit x rest) → Tells (tables_of_block r x) rest (block in_unit limit x rest)
tells-block limit r (reloc_tree b gs) rest p = tells-field (tables_of_groups gs) rest _ _ (tells-groups limit gs rest p.1)
tells-block limit r (short_tree b gs pad) rest p = absurd (no-short limit b p.0)
tells-block limit r (ext_tree b es) rest p = tells-field (tables_of_entries r es) rest _ _ (tells-entries limit r es rest p.1)
tells-block limit r (symbol_tree b xs) rest p = tells-field (tables_of_symbols xs) rest _ _ (tells-symbols xs rest p.1)
tells-block limit r (debug_tree b ws) rest p =
    let words = words-each ws rest p.1.1 in
    record { told = record { sites = tt; references = tt; definitions = tt; symbols = tt; debugs = (p.1.0.fits, tt) }; pass = words.pass; count = omega (arith, words.count) }

pub tells-blocks : (limit r : ℕ) (xs : List BlockTree) (b : ℕ) (rest : List Field) → AllPass (blocks_end in_unit limit xs b rest) → Tells (tables_of_blocks r xs) rest (blocks_end in_unit limit xs b rest)
tells-blocks limit r [] b rest p = tells-field no_tables rest _ rest (tells-none rest p.1)
tells-blocks limit r (x ∷ xs) b rest p =
    let told = tables_of_block r x in
    let more = tables_of_blocks (r + length told.references) xs in
    let here = tells-block limit r x (blocks_end in_unit limit xs b rest) p in
    tells-merged told more rest _ _ here (tells-blocks limit (r + length told.references) xs b rest here.pass)
