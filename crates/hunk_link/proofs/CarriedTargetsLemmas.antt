-- The targets in the load file are ranks of hunks.
use Rattle.std.proofs.Common.{ℕ, ◌+◌, ◌<◌, ◌≤◌, Bool, inl, inr, Option, Some, None, List, [], ◌∷◌, length, get_or, sym, subst, arith}
use Rattle.std.specs.List.{All, cons_option}
use Rattle.std.specs.Option.{IfSome, option_map}
use Rattle.std.proofs.lemmas.Bool.{cases_lt}
use Rattle.std.proofs.lemmas.List.{get_or_past}
use Rattle.std.proofs.lemmas.List.Elements.{All-cons, All-get_or, All-head, All-map, All-nil, All-tail}
use Rattle.std.proofs.lemmas.Map.Entries.{All-lookup}
use Rattle.hunk_loadfile.specs.Laws.{second_sites}
use Rattle.hunk_objects.specs.declared.unit_hunk.Adds.{Adds}
use Rattle.hunk_objects.specs.declared.unit_hunk.Adds.TheVariants.{Hunk, Reference}
use Rattle.hunk_objects.specs.declared.unit_hunk.Definition.{Definition as UnitDefinition}
use Rattle.hunk_objects.specs.declared.unit_hunk.Definition.TheVariants.{At, Absolute}
use Rattle.hunk_link.specs.Addend.{addend_of, defined_addend, definition_addend, name_addend, nothing, reference_addends}
use Rattle.hunk_link.specs.Carried.{carried_ranked}
use Rattle.hunk_link.specs.Laws.{NamesRanks, TargetsAreRanks}
use Rattle.hunk_link.specs.OwnHunks.{AllNameOwnHunks, IsOneOf, NamesOwnHunk, sites_in}
use Rattle.hunk_link.specs.Ranks.{RankedHunk, hunks_of, items_of}
use Rattle.hunk_link.specs.SymbolTable.{Definition, Table, definitions_in, definitions_of, entry, look_up, table_of}
use Rattle.hunk_link.specs.declared.addend.Addend.{Addend}
use Rattle.hunk_link.specs.declared.symbol_table.Defined.{Defined}
use Rattle.hunk_link.proofs.AllLemmas.{All-flat_map, All-flat_map-parts, All-map-parts}
use Rattle.hunk_link.proofs.RanksLemmas.{IsRankedBelow, IsRankedBelow-hunks_of}

-- ---- what the names of a table add

-- the base is that of one of `count` hunks, if there is one
abbrev IsBelow : ℕ → Option ℕ → Type 0
IsBelow count base = IfSome base (λ rank. rank < count)

-- each name stands for something in one of `count` hunks
abbrev TableBelow : ℕ → Table → Type 0
TableBelow count table = All (λ e. e.1.rank < count) table

table_of-below : (count : ℕ) (hunks : List RankedHunk) → All (IsRankedBelow count) hunks → TableBelow count (table_of hunks)
table_of-below count hunks placed =
    let InHunk : Definition → Type 0 = λ d. d.0.first + d.0.number < count in
    All-map (λ e. e.1.rank < count) entry (definitions_of hunks)
    (All-flat_map InHunk (items_of definitions_in) hunks
    (λ k d within. let place = placed k d within in All-map InHunk _ (get_or hunks k d).hunk.definitions (λ j e low. omega arith)))

definition_addend-below : (count rank : ℕ) (definition : UnitDefinition) → rank < count → IsBelow count (definition_addend rank definition).base
definition_addend-below count rank (At offset) low = low
definition_addend-below count rank (Absolute value) low = tt

defined_addend-below : (count : ℕ) (defined : Option Defined) → IfSome defined (λ d. d.rank < count) → IsBelow count (defined_addend defined).base
defined_addend-below count None low = tt
defined_addend-below count (Some defined) low = definition_addend-below count defined.rank defined.definition low

name_addend-below : (count : ℕ) (table : Table) (name : List ℕ) → TableBelow count table → IsBelow count (name_addend table name).base
name_addend-below count table name low = defined_addend-below count (look_up table name) (All-lookup (λ d. d.rank < count) _ table low)

-- ---- what is added at a site

abbrev AddsBelow : ℕ → Addend → Type 0
AddsBelow count addend = IsBelow count addend.base

reference-below : (count index : ℕ) (addends : List Addend) → All (AddsBelow count) addends → AddsBelow count (get_or addends index nothing)
reference-below count index addends all = elim (cases_lt index (length addends)) [
  | inl within ↦ All-get_or (AddsBelow count) addends index nothing within all
  | inr past ↦ subst (AddsBelow count) (sym (get_or_past addends index nothing past)) tt
]

addend_of-below : (count own first : ℕ) (addends : List Addend) (adds : Adds) → first + own ≤ count → All (AddsBelow count) addends → IsOneOf own adds → AddsBelow count (addend_of first addends adds)
addend_of-below count own first addends (Hunk target) few all low = omega arith
addend_of-below count own first addends (Reference index) few all low = reference-below count index addends all

-- one more site, if something is added there
All-one_more : {U : Type 0} (P : U → Type 0) (offset : ℕ) (second : Option U) (rest : List (ℕ × U)) → IfSome second P → All (λ s. P s.1) rest
    → All (λ s. P s.1) (cons_option (option_map (λ u. (offset, u)) second) rest)
All-one_more P offset None rest holds all = all
All-one_more P offset (Some u) rest holds all = All-cons (λ s. P s.1) (offset, u) rest holds all

-- the targets of the sites that are left
All-second_sites : {T U : Type 0} (P : U → Type 0) (part : T → Option U) (sites : List (ℕ × T)) → All (λ site. IfSome (part site.1) P) sites → All (λ site. P site.1) (second_sites part sites)
All-second_sites P part [] all = All-nil (λ site. P site.1)
All-second_sites {T} P part (site ∷ sites) all =
    let Given : ℕ × T → Type 0 = λ s. IfSome (part s.1) P in
    All-one_more P site.0 (part site.1) (second_sites part sites) (All-head Given site sites all) (All-second_sites P part sites (All-tail Given site sites all))

-- ---- of the load file

carried_ranked-below : (count : ℕ) (table : Table) (strip : Bool) (ranked : RankedHunk) → IsRankedBelow count ranked → TableBelow count table → AllNameOwnHunks (items_of sites_in ranked)
    → NamesRanks count (carried_ranked table strip ranked)
carried_ranked-below count table strip ranked placed low own =
    let addends = reference_addends table ranked.hunk in
    let each : All (AddsBelow count) addends = All-map (AddsBelow count) (name_addend table) ranked.hunk.references (λ k d within. name_addend-below count table _ low) in
    let sites = ranked.hunk.sites.entries in
    let named = All-map-parts NamesOwnHunk (λ (site : ℕ × Adds). (ranked, site)) sites own in
    All-second_sites (λ rank. rank < count) (λ adds. (addend_of ranked.first addends adds).base) sites
    (λ k d within. addend_of-below count ranked.count ranked.first addends (get_or sites k d).1 placed.few each (named k d within))

pub targets-ranks : TargetsAreRanks
targets-ranks units strip typed linkable =
    let count = length (hunks_of units) in
    let hunks = hunks_of units in
    let placed = IsRankedBelow-hunks_of units in
    let own = All-flat_map-parts NamesOwnHunk (items_of sites_in) hunks linkable.own_hunks in
    All-map (NamesRanks count) (carried_ranked (table_of hunks) strip) hunks
    (λ k d within. carried_ranked-below count (table_of hunks) strip (get_or hunks k d) (placed k d within) (table_of-below count hunks placed) (own k d within))
