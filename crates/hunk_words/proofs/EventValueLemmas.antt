-- What the events of blocks and hunks build: a lemma for each part of a tree, with a premise on
-- what the events after it build.
use Rattle.std.proofs.Common.{◌≡◌, ℕ, zero, suc, pred, ◌+◌, ◌^◌, List, [], ◌∷◌, ◌++◌, length, Option, Some, None, append_assoc, append-nil, length-append, refl, ap, sym, subst, ◌∙◌, arith}
use Rattle.hunk_words.specs.Kinds.{Within, Kind, Field, field, type_of, entry_type, flip, half_after, content_bits, site_limit}
use Rattle.hunk_words.specs.FaultTable.{Passes, AllPass}
use Rattle.hunk_words.specs.Kinds.Kind.{content_type, block_type, name_length, word, value, content_size, offset, debug_length, ext_entry, ref_count, ref_offset}
use Rattle.hunk_words.specs.declared.kinds.Half.{Half}
use Rattle.hunk_words.specs.declared.kinds.Half.TheVariants.{Upper as upper, Lower as lower}
use Rattle.hunk_words.specs.declared.kinds.HunkKind.{HunkKind}
use Rattle.hunk_words.specs.declared.kinds.HunkKind.TheVariants.{Code, Data, Bss}
use Rattle.hunk_words.specs.declared.kinds.BlockType.{BlockType}
use Rattle.hunk_words.specs.declared.event.Event.TheVariants.{Content, Word, Entry, HunkEnd}
use Rattle.hunk_words.specs.Trees.{Group, ExtTree, SymbolTree, BlockTree, ContentTree, BodyTree, NameTree}
use Rattle.hunk_words.specs.Trees.ExtTree.{ext_def, ext_abs, ext_ref}
use Rattle.hunk_words.specs.Trees.BlockTree.{reloc_tree, short_tree, ext_tree, symbol_tree, debug_tree}
use Rattle.hunk_words.specs.Trees.ContentTree.{code_tree, data_tree, bss_tree}
use Rattle.hunk_words.specs.Spelling.{joined_bits, type_longword, each, groups, short_offsets, short_groups, entries, symbols, last_of, block, blocks_end, content_then, body, hunk_at}
use Rattle.hunk_words.specs.Event.{at_end, event_at, with_event, events}
use Rattle.hunk_words.specs.Kinds.{hunk_kind_number, hunk_kind_of}
use Rattle.hunk_words.specs.Values.{HunkTables, Hunk, Adds, no_tables, empty, merged, with_tables, one_site, one_reference, one_definition, one_symbol, one_debug, tables_of_sites, tables_of_groups, tables_of_entries, tables_of_symbols, tables_of_block, tables_of_blocks, name_words, content_value}
use Rattle.hunk_words.specs.Values.Adds.{to_hunk, to_reference}
use Rattle.hunk_words.specs.Values.Definition.{offset_at, absolute_at}
use Rattle.hunk_words.specs.EventValue.{Receiver, EventValue, on_last, step, value_of_events}
use Rattle.hunk_words.specs.EventValue.Receiver.{to_name, to_content, to_debug, to_symbol, to_entry, nothing_more}
use Rattle.hunk_words.proofs.SpellingBitLemmas.{joined_bits-div, type_longword-low, type_longword-type}
use Rattle.hunk_words.proofs.KindsTypeLemmas.{type-reloc, type-ext, type-symbol, type-debug, type-end, type-short}

-- ---- what hunks contain, one thing after another

merged-no_tables : (a : HunkTables) → merged a no_tables ≡ a
merged-no_tables a = simp append-nil

merged-merged : (a b c : HunkTables) → merged (merged a b) c ≡ merged a (merged b c)
merged-merged a b c = simp append_assoc

with_tables-no_tables : (h : Hunk) → with_tables h no_tables ≡ h
with_tables-no_tables h = ap (λ t. record h { tables = t }) (merged-no_tables h.tables)

with_tables-with_tables : (h : Hunk) (a b : HunkTables) → with_tables (with_tables h a) b ≡ with_tables h (merged a b)
with_tables-with_tables h a b = ap (λ t. record h { tables = t }) (merged-merged h.tables a b)

pub on_last-append : {A : Type 0} (f : A → A) (xs : List A) (x : A) → on_last f (xs ++ (x ∷ [])) ≡ xs ++ (f x ∷ [])
on_last-append f [] x = refl
on_last-append f (y ∷ []) x = refl
on_last-append f (y ∷ z ∷ xs) x = ap (λ q. y ∷ q) (on_last-append f (z ∷ xs) x)

-- ---- the current hunk

-- built so far, with this hunk and receiver
abbrev pub holding : EventValue → Hunk → Receiver → EventValue
holding b h r = record b { hunk = h; receiver = r }

-- with this hunk, whatever the receiver, the fields after it build something with the property
abbrev pub Onward : (EventValue → Type 0) → EventValue → Hunk → List Field → Type 0
Onward Q b h rest = (r : Receiver) → AllPass rest → Q (value_of_events (holding b h r) (events rest))

-- the hunk contains nothing more
onward-same : (Q : EventValue → Type 0) (b : EventValue) (h : Hunk) (rest : List Field) → Onward Q b (with_tables h no_tables) rest → Onward Q b h rest
onward-same Q b h rest next = subst (λ q. Onward Q b q rest) (with_tables-no_tables h) next

-- it contains a and then c
onward-merged : (Q : EventValue → Type 0) (b : EventValue) (h : Hunk) (a c : HunkTables) (rest : List Field) → Onward Q b (with_tables h (merged a c)) rest → Onward Q b (with_tables (with_tables h a) c) rest
onward-merged Q b h a c rest next = subst (λ q. Onward Q b q rest) (sym (with_tables-with_tables h a c)) next

-- words go where the receiver has them
pub value_of_events-words : (make : List ℕ → EventValue) → ((ws : List ℕ) (w : ℕ) → step (make ws) (Word w) ≡ make (ws ++ (w ∷ [])))
    → (front ws : List ℕ) (rest : List Field) (Q : EventValue → Type 0) → AllPass (each word ws rest)
    → (AllPass rest → Q (value_of_events (make (front ++ ws)) (events rest))) → Q (value_of_events (make front) (events (each word ws rest)))
value_of_events-words make grows front [] rest Q p next = subst (λ q. Q (value_of_events (make q) (events rest))) (append-nil front) (next p)
value_of_events-words make grows front (w ∷ ws) rest Q p next =
    subst (λ q. Q (value_of_events q (events (each word ws rest)))) (sym (grows front w))
    (value_of_events-words make grows (front ++ (w ∷ [])) ws rest Q p.1 (λ q. subst (λ x. Q (value_of_events (make x) (events rest))) (sym (append_assoc front (w ∷ []) ws)) (next q)))

-- ---- blocks

value_of_events-offsets : (limit target : ℕ) (ns : List ℕ) (rest : List Field) (b : EventValue) (h : Hunk) (r : Receiver) (Q : EventValue → Type 0)
    → AllPass (each (offset limit target) ns rest) → Onward Q b (with_tables h (tables_of_sites ns (to_hunk target))) rest
    → Q (value_of_events (holding b h r) (events (each (offset limit target) ns rest)))
value_of_events-offsets limit target [] rest b h r Q p next = onward-same Q b h rest next r p
value_of_events-offsets limit target (n ∷ ns) rest b h r Q p next =
    value_of_events-offsets limit target ns rest b (with_tables h (one_site n (to_hunk target))) r Q p.1 (onward-merged Q b h (one_site n (to_hunk target)) (tables_of_sites ns (to_hunk target)) rest next)

value_of_events-groups : (w : Within) (limit : ℕ) (gs : List Group) (rest : List Field) (b : EventValue) (h : Hunk) (r : Receiver) (Q : EventValue → Type 0)
    → AllPass (groups w limit gs rest) → Onward Q b (with_tables h (tables_of_groups gs)) rest
    → Q (value_of_events (holding b h r) (events (groups w limit gs rest)))
value_of_events-groups w limit [] rest b h r Q p next = onward-same Q b h rest next r p.1
value_of_events-groups w limit (g ∷ gs) rest b h r Q p next =
    value_of_events-offsets limit g.target (g.first ∷ g.others) (groups w limit gs rest) b h r Q p.1.1
    (λ s q. value_of_events-groups w limit gs rest b (with_tables h (tables_of_sites (g.first ∷ g.others) (to_hunk g.target))) s Q q (onward-merged Q b h (tables_of_sites (g.first ∷ g.others) (to_hunk g.target)) (tables_of_groups gs) rest next))

value_of_events-short-offsets : (half : Half) (limit target : ℕ) (ns : List ℕ) (rest : List Field) (b : EventValue) (h : Hunk) (r : Receiver) (Q : EventValue → Type 0)
    → AllPass (short_offsets half limit target ns rest) → Onward Q b (with_tables h (tables_of_sites ns (to_hunk target))) rest
    → Q (value_of_events (holding b h r) (events (short_offsets half limit target ns rest)))
value_of_events-short-offsets half limit target [] rest b h r Q p next = onward-same Q b h rest next r p
value_of_events-short-offsets half limit target (n ∷ ns) rest b h r Q p next =
    value_of_events-short-offsets (flip half) limit target ns rest b (with_tables h (one_site n (to_hunk target))) r Q p.1 (onward-merged Q b h (one_site n (to_hunk target)) (tables_of_sites ns (to_hunk target)) rest next)

value_of_events-short-groups : (half : Half) (last limit : ℕ) (gs : List Group) (pad : ℕ) (rest : List Field) (b : EventValue) (h : Hunk) (r : Receiver) (Q : EventValue → Type 0)
    → AllPass (short_groups half last limit gs pad rest) → Onward Q b (with_tables h (tables_of_groups gs)) rest
    → Q (value_of_events (holding b h r) (events (short_groups half last limit gs pad rest)))
value_of_events-short-groups upper last limit [] pad rest b h r Q p next = onward-same Q b h rest next r p.1.1
value_of_events-short-groups lower last limit [] pad rest b h r Q p next = onward-same Q b h rest next r p.1
value_of_events-short-groups half last limit (g ∷ gs) pad rest b h r Q p next =
    value_of_events-short-offsets (flip (flip half)) limit g.target (g.first ∷ g.others) (short_groups (half_after (suc (length g.others)) half) last limit gs pad rest) b h r Q p.1.1
    (λ s q. value_of_events-short-groups (half_after (suc (length g.others)) half) last limit gs pad rest b (with_tables h (tables_of_sites (g.first ∷ g.others) (to_hunk g.target))) s Q q
    (onward-merged Q b h (tables_of_sites (g.first ∷ g.others) (to_hunk g.target)) (tables_of_groups gs) rest next))

-- the offsets of the latest reference, with c earlier references
value_of_events-ref-offsets : (limit c : ℕ) (ns : List ℕ) (rest : List Field) (b : EventValue) (h : Hunk) (r : Receiver) (Q : EventValue → Type 0)
    → length h.tables.references ≡ suc c
    → AllPass (each (ref_offset limit) ns rest) → Onward Q b (with_tables h (tables_of_sites ns (to_reference c))) rest
    → Q (value_of_events (holding b h r) (events (each (ref_offset limit) ns rest)))
value_of_events-ref-offsets limit c [] rest b h r Q is p next = onward-same Q b h rest next r p
value_of_events-ref-offsets limit c (n ∷ ns) rest b h r Q is p next =
    subst (λ x. Q (value_of_events (holding b (with_tables h (one_site n (to_reference (pred x)))) r) (events (each (ref_offset limit) ns rest)))) (sym is)
    (value_of_events-ref-offsets limit c ns rest b (with_tables h (one_site n (to_reference c))) r Q (ap length (append-nil h.tables.references) ∙ is) p.1
    (onward-merged Q b h (one_site n (to_reference c)) (tables_of_sites ns (to_reference c)) rest next))

-- the event of an entry has its type
event-entry : (limit t n : ℕ) → entry_type n ≡ suc t → event_at (ext_entry limit) n ≡ Some (Entry (suc t))
event-entry limit t zero is = absurd (omega (arith, is))
event-entry limit t (suc n) is = ap (λ x. Some (Entry x)) is

-- an entry's first longword and its name
value_of_events-entry : (limit t : ℕ) (n : List ℕ) (rest : List Field) (b : EventValue) (h : Hunk) (r : Receiver) (Q : EventValue → Type 0)
    → AllPass (field (ext_entry limit) (joined_bits (2 ^ 24) (suc t) (length n)) ∷ each word n rest)
    → (AllPass rest → Q (value_of_events (holding b h (to_entry (suc t) n)) (events rest)))
    → Q (value_of_events (holding b h r) (events (field (ext_entry limit) (joined_bits (2 ^ 24) (suc t) (length n)) ∷ each word n rest)))
value_of_events-entry limit t n rest b h r Q p next =
    subst (λ e. Q (value_of_events (holding b h r) (with_event e (events (each word n rest))))) (sym (event-entry limit t (joined_bits (2 ^ 24) (suc t) (length n)) (joined_bits-div (2 ^ 24) (suc t) (length n) p.0.fits)))
    (value_of_events-words (λ ws. holding b h (to_entry (suc t) ws)) (λ ws w. refl) [] n rest Q p.1 next)

-- a hunk has c references
abbrev pub Counts : Hunk → ℕ → Type 0
Counts h c = length h.tables.references ≡ c

counts-none : (h : Hunk) (c : ℕ) (t : HunkTables) → t.references ≡ [] → Counts h c → Counts (with_tables h t) c
counts-none h c t none is = ap (λ q. length (h.tables.references ++ q)) none ∙ ap length (append-nil h.tables.references) ∙ is

counts-merged : (h : Hunk) (c : ℕ) (t : HunkTables) → Counts h c → Counts (with_tables h t) (c + length t.references)
counts-merged h c t is = length-append h.tables.references t.references ∙ ap (λ q. q + length t.references) is

counts-reference : (h : Hunk) (c : ℕ) (n : List ℕ) → Counts h c → Counts (with_tables h (one_reference n)) (suc c)
counts-reference h c n is = counts-merged h c (one_reference n) is ∙ omega arith

references-sites : (ns : List ℕ) (a : Adds) → (tables_of_sites ns a).references ≡ []
references-sites [] a = refl
references-sites (n ∷ ns) a = references-sites ns a

value_of_events-entries : (limit c : ℕ) (es : List ExtTree) (rest : List Field) (b : EventValue) (h : Hunk) (r : Receiver) (Q : EventValue → Type 0)
    → Counts h c → AllPass (entries limit es rest) → Onward Q b (with_tables h (tables_of_entries c es)) rest
    → Q (value_of_events (holding b h r) (events (entries limit es rest)))
value_of_events-entries limit c [] rest b h r Q is p next = onward-same Q b h rest next r p.1
value_of_events-entries limit c (ext_def n at ∷ es) rest b h r Q is p next =
    value_of_events-entry limit 0 n (field value at ∷ entries limit es rest) b h r Q p
    (λ q. value_of_events-entries limit c es rest b (with_tables h (one_definition n (offset_at at))) nothing_more Q (counts-none h c (one_definition n (offset_at at)) refl is) q.1
    (onward-merged Q b h (one_definition n (offset_at at)) (tables_of_entries c es) rest next))
value_of_events-entries limit c (ext_abs n amount ∷ es) rest b h r Q is p next =
    value_of_events-entry limit 1 n (field value amount ∷ entries limit es rest) b h r Q p
    (λ q. value_of_events-entries limit c es rest b (with_tables h (one_definition n (absolute_at amount))) nothing_more Q (counts-none h c (one_definition n (absolute_at amount)) refl is) q.1
    (onward-merged Q b h (one_definition n (absolute_at amount)) (tables_of_entries c es) rest next))
value_of_events-entries limit c (ext_ref n [] ∷ es) rest b h r Q is p next =
    value_of_events-entry limit 128 n (field (ref_count limit) 0 ∷ entries limit es rest) b h r Q p
    (λ q. subst (λ x. Q (value_of_events (holding b x nothing_more) (events (entries limit es rest)))) (sym (with_tables-no_tables h))
    (value_of_events-entries limit c es rest b h nothing_more Q is q.1 next))
value_of_events-entries limit c (ext_ref n (o ∷ os) ∷ es) rest b h r Q is p next =
    value_of_events-entry limit 128 n (field (ref_count limit) (suc (length os)) ∷ each (ref_offset limit) (o ∷ os) (entries limit es rest)) b h r Q p
    (λ q. value_of_events-ref-offsets limit c (o ∷ os) (entries limit es rest) b (with_tables h (one_reference n)) nothing_more Q (counts-reference h c n is) q.1
    (λ s u. value_of_events-entries limit (suc c) es rest b (with_tables (with_tables h (one_reference n)) (tables_of_sites (o ∷ os) (to_reference c))) s Q
    (counts-none (with_tables h (one_reference n)) (suc c) (tables_of_sites (o ∷ os) (to_reference c)) (references-sites (o ∷ os) (to_reference c)) (counts-reference h c n is)) u
    (onward-merged Q b (with_tables h (one_reference n)) (tables_of_sites (o ∷ os) (to_reference c)) (tables_of_entries (suc c) es) rest
    (onward-merged Q b h (one_reference n) (merged (tables_of_sites (o ∷ os) (to_reference c)) (tables_of_entries (suc c) es)) rest next))))

value_of_events-symbols : (xs : List SymbolTree) (rest : List Field) (b : EventValue) (h : Hunk) (r : Receiver) (Q : EventValue → Type 0)
    → AllPass (symbols xs rest) → Onward Q b (with_tables h (tables_of_symbols xs)) rest
    → Q (value_of_events (holding b h r) (events (symbols xs rest)))
value_of_events-symbols [] rest b h r Q p next = onward-same Q b h rest next r p.1
value_of_events-symbols (x ∷ xs) rest b h r Q p next =
    value_of_events-words (λ ws. holding b h (to_symbol ws)) (λ ws w. refl) [] (x.first ∷ x.others) (field value x.amount ∷ symbols xs rest) Q p.1
    (λ q. value_of_events-symbols xs rest b (with_tables h (one_symbol (x.first ∷ x.others) x.amount)) nothing_more Q q.1
    (onward-merged Q b h (one_symbol (x.first ∷ x.others) x.amount) (tables_of_symbols xs) rest next))

-- longwords for a debugger
value_of_events-debug : (ws : List ℕ) (rest : List Field) (b : EventValue) (h : Hunk) (Q : EventValue → Type 0)
    → AllPass (each word ws rest) → Onward Q b (with_tables h (one_debug ws)) rest
    → Q (value_of_events (holding b (with_tables h (one_debug [])) to_debug) (events (each word ws rest)))
value_of_events-debug ws rest b h Q p next =
    value_of_events-words (λ vs. holding b (with_tables h (one_debug vs)) to_debug)
    (λ vs w. ap (λ q. holding b (record h { tables = record (merged h.tables (one_debug vs)) { debugs = q } }) to_debug) (on_last-append (λ xs. xs ++ (w ∷ [])) h.tables.debugs vs))
    [] ws rest Q p (next to_debug)

-- a block's type has an event if it is END
value_of_events-type : (w : Within) (limit b t : ℕ) (y : BlockType) (fs : List Field) (x : EventValue) (Q : EventValue → Type 0)
    → type_of t ≡ y → Passes (block_type w limit) (type_longword b t) → Q (value_of_events x (with_event (at_end y) (events fs)))
    → Q (value_of_events x (events (field (block_type w limit) (type_longword b t) ∷ fs)))
value_of_events-type w limit b t y fs x Q is p next = subst (λ q. Q (value_of_events x (with_event (at_end q) (events fs)))) (sym (type_longword-type b t is p.fits)) next

value_of_events-block : (w : Within) (limit c : ℕ) (x : BlockTree) (rest : List Field) (b : EventValue) (h : Hunk) (r : Receiver) (Q : EventValue → Type 0)
    → Counts h c → AllPass (block w limit x rest) → Onward Q b (with_tables h (tables_of_block c x)) rest
    → Q (value_of_events (holding b h r) (events (block w limit x rest)))
value_of_events-block w limit c (reloc_tree a gs) rest b h r Q is p next =
    value_of_events-type w limit a 1004 _ (groups w limit gs rest) (holding b h r) Q type-reloc p.0 (value_of_events-groups w limit gs rest b h r Q p.1 next)
value_of_events-block w limit c (short_tree a gs pad) rest b h r Q is p next =
    value_of_events-type w limit a 1020 _ (short_groups upper (last_of w) limit gs pad rest) (holding b h r) Q type-short p.0 (value_of_events-short-groups upper (last_of w) limit gs pad rest b h r Q p.1 next)
value_of_events-block w limit c (ext_tree a es) rest b h r Q is p next =
    value_of_events-type w limit a 1007 _ (entries limit es rest) (holding b h r) Q type-ext p.0 (value_of_events-entries limit c es rest b h r Q is p.1 next)
value_of_events-block w limit c (symbol_tree a xs) rest b h r Q is p next =
    value_of_events-type w limit a 1008 _ (symbols xs rest) (holding b h r) Q type-symbol p.0 (value_of_events-symbols xs rest b h r Q p.1 next)
value_of_events-block w limit c (debug_tree a ws) rest b h r Q is p next =
    value_of_events-type w limit a 1009 _ (field debug_length (length ws) ∷ each word ws rest) (holding b h r) Q type-debug p.0 (value_of_events-debug ws rest b h Q p.1.1 next)

-- ---- hunks

-- with this hunk at its END, the fields after it build something with the property
abbrev pub Ended : (EventValue → Type 0) → EventValue → Hunk → List Field → Type 0
Ended Q b h rest = AllPass rest → Q (value_of_events (step (holding b h nothing_more) HunkEnd) (events rest))

value_of_events-blocks-end : (w : Within) (limit c : ℕ) (xs : List BlockTree) (a : ℕ) (rest : List Field) (b : EventValue) (h : Hunk) (r : Receiver) (Q : EventValue → Type 0)
    → Counts h c → AllPass (blocks_end w limit xs a rest) → Ended Q b (with_tables h (tables_of_blocks c xs)) rest
    → Q (value_of_events (holding b h r) (events (blocks_end w limit xs a rest)))
value_of_events-blocks-end w limit c [] a rest b h r Q is p next =
    value_of_events-type w limit a 1010 _ rest (holding b h r) Q type-end p.0 (subst (λ q. Ended Q b q rest) (with_tables-no_tables h) next p.1)
value_of_events-blocks-end w limit c (x ∷ xs) a rest b h r Q is p next =
    value_of_events-block w limit c x (blocks_end w limit xs a rest) b h r Q is p
    (λ s q. value_of_events-blocks-end w limit (c + length (tables_of_block c x).references) xs a rest b (with_tables h (tables_of_block c x)) s Q (counts-merged h c (tables_of_block c x) is) q
    (subst (λ g. Ended Q b g rest) (sym (with_tables-with_tables h (tables_of_block c x) (tables_of_blocks (c + length (tables_of_block c x).references) xs))) next))

-- a hunk whose content has not begun
abbrev pub named : List ℕ → Hunk
named n = record empty { name = n }

-- the size of CODE or DATA, its words, and what follows them
abbrev pub stored : Within → HunkKind → ℕ → ℕ → List ℕ → List BlockTree → ℕ → List Field → List Field
stored w y m c ws xs a rest = field (content_size w y m) (type_longword c (length ws)) ∷ each word ws (blocks_end w (site_limit w (length ws)) xs a rest)

value_of_events-stored : (w : Within) (y : HunkKind) (m c : ℕ) (ws : List ℕ) (xs : List BlockTree) (a : ℕ) (rest : List Field) (b : EventValue) (n : List ℕ) (r : Receiver) (Q : EventValue → Type 0)
    → hunk_kind_of (hunk_kind_number y) ≡ y → AllPass (stored w y m c ws xs a rest)
    → Ended Q b (record { name = n; kind = y; memory = m; size = length ws; content = ws; tables = tables_of_blocks 0 xs }) rest
    → Q (value_of_events (holding b (named n) r) (events (stored w y m c ws xs a rest)))
value_of_events-stored w y m c ws xs a rest b n r Q is p next =
    let behind : List Field = blocks_end w (site_limit w (length ws)) xs a rest in
    let begun : List ℕ → Hunk = λ vs. record (named n) { kind = y; memory = m; size = length ws; content = vs } in
    subst (λ q. Q (value_of_events (step (holding b (named n) r) (Content (hunk_kind_number y) m q)) (events (each word ws behind)))) (sym (type_longword-low c (length ws) p.0.fits))
    (subst (λ q. Q (value_of_events (holding b (record (named n) { kind = q; memory = m; size = length ws }) to_content) (events (each word ws behind)))) (sym is)
    (value_of_events-words (λ vs. holding b (begun vs) to_content) (λ vs v. refl) [] ws behind Q p.1
    (λ q. value_of_events-blocks-end w (site_limit w (length ws)) 0 xs a rest b (begun ws) to_content Q refl q next)))

-- numbers of this kind have no event
abbrev pub Silent : Kind → Type 0
Silent k = (n : ℕ) → event_at k n ≡ None

-- a field without an event
pub value_of_events-silent : (k : Kind) (n : ℕ) (fs : List Field) (b : EventValue) (Q : EventValue → Type 0) → Silent k → Q (value_of_events b (events fs)) → Q (value_of_events b (events (field k n ∷ fs)))
value_of_events-silent k n fs b Q silent next = subst (λ e. Q (value_of_events b (with_event e (events fs)))) (sym (silent n)) next

value_of_events-content : (k : Kind) (w : Within) (x : ContentTree) (xs : List BlockTree) (a : ℕ) (rest : List Field) (b : EventValue) (n : List ℕ) (r : Receiver) (Q : EventValue → Type 0)
    → Silent k → AllPass (content_then k w x xs a rest) → Ended Q b (content_value w n (tables_of_blocks 0 xs) x) rest
    → Q (value_of_events (holding b (named n) r) (events (content_then k w x xs a rest)))
value_of_events-content k w (code_tree t c ws) xs a rest b n r Q silent p next =
    value_of_events-silent k (type_longword t 1001) (stored w Code (content_bits w t) c ws xs a rest) (holding b (named n) r) Q silent (value_of_events-stored w Code (content_bits w t) c ws xs a rest b n r Q refl p.1 next)
value_of_events-content k w (data_tree t c ws) xs a rest b n r Q silent p next =
    value_of_events-silent k (type_longword t 1002) (stored w Data (content_bits w t) c ws xs a rest) (holding b (named n) r) Q silent (value_of_events-stored w Data (content_bits w t) c ws xs a rest b n r Q refl p.1 next)
value_of_events-content k w (bss_tree t c size) xs a rest b n r Q silent p next =
    value_of_events-silent k (type_longword t 1003) (field (content_size w Bss (content_bits w t)) (type_longword c size) ∷ blocks_end w (site_limit w 0) xs a rest) (holding b (named n) r) Q silent
    (subst (λ q. Q (value_of_events (step (holding b (named n) r) (Content (hunk_kind_number Bss) (content_bits w t) q)) (events (blocks_end w (site_limit w 0) xs a rest)))) (sym (type_longword-low c size p.1.0.fits))
    (value_of_events-blocks-end w (site_limit w 0) 0 xs a rest b (record (named n) { kind = Bss; memory = content_bits w t; size = size }) to_content Q refl p.1.1 next))

pub value_of_events-hunk : (k : Kind) (w : Within) (n : Option NameTree) (x : BodyTree) (rest : List Field) (b : EventValue) (r : Receiver) (Q : EventValue → Type 0)
    → Silent k → AllPass (hunk_at k w n x rest) → Ended Q b (content_value w (name_words n) (tables_of_blocks 0 x.blocks) x.content) rest
    → Q (value_of_events (holding b empty r) (events (hunk_at k w n x rest)))
value_of_events-hunk k w None x rest b r Q silent p next = value_of_events-content k w x.content x.blocks x.end_bits rest b [] r Q silent p next
value_of_events-hunk k w (Some n) x rest b r Q silent p next =
    value_of_events-silent k (type_longword n.type_bits 1000) (field name_length (length n.words) ∷ each word n.words (body (content_type w) w x rest)) (holding b empty r) Q silent
    (value_of_events-words (λ ws. holding b (named ws) to_name) (λ ws v. refl) [] n.words (body (content_type w) w x rest) Q p.1.1
    (λ q. value_of_events-content (content_type w) w x.content x.blocks x.end_bits rest b n.words to_name Q (λ m. refl) q next))
