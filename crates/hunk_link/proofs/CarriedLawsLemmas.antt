-- The load file breaks no rule of load files.
use Rattle.std.proofs.Common.{◌≡◌, ◌==◌, ℕ, ◌*◌, ◌%◌, ◌<◌, ◌≤◌, ◌&&◌, Bool, true, false, not, nat_le, nat_lt, Option, None, List, [], ◌∷◌, length, map, get_or, sum_by, position, refl, sym, ap, subst, ◌∙◌, arith}
use Rattle.std.specs.List.{All, list_all, position_or_len}
use Rattle.std.proofs.lemmas.Bool.{and_from, eq-eqb, le-leb, le-ltb, lt-ltb}
use Rattle.std.proofs.lemmas.List.{length-map}
use Rattle.std.proofs.lemmas.List.Elements.{All-head, All-map, All-tail}
use Rattle.std.proofs.lemmas.List.Sums.{list_all-from_AllPass, sum_by-cons}
use Rattle.std.proofs.lemmas.Simd.{map-map}
use Rattle.hunk_words.specs.declared.kinds.HunkKind.{HunkKind}
use Rattle.hunk_words.specs.declared.kinds.HunkKind.TheVariants.{Code, Data, Bss}
use Rattle.hunk_loadfile.specs.LoadHunk.{FileHunk}
use Rattle.hunk_loadfile.specs.Rules.{carried_by as file_carried_by, carried_longwords, fault_at, fault_unless, has_content, has_limit, has_names, has_targets, is_hunk_count, is_small, most_carried, most_content, most_hunks, most_size, size_of as file_size}
use Rattle.hunk_loadfile.specs.declared.rules.BuildFault.{BuildFault}
use Rattle.hunk_loadfile.specs.declared.rules.BuildFault.TheVariants.{HunkCount, TooLarge, Content, SiteLimit, Target, LongName}
use Rattle.hunk_loadfile.proofs.PatchingLemmas.{length-patched_bytes}
use Rattle.hunk_base.specs.Name.{most_name}
use Rattle.hunk_objects.specs.UnitHunk.{IsUnitHunk, content_bytes}
use Rattle.hunk_link.specs.Addend.{addend_of, reference_addends}
use Rattle.hunk_link.specs.Carried.{carried, carried_ranked, unless_stripped}
use Rattle.hunk_link.specs.Laws.{CarriedIsAccepted, NamesRanks, SizesAreCarried}
use Rattle.hunk_link.specs.Limits.{carried_by}
use Rattle.hunk_link.specs.Ranks.{RankedHunk, hunks_of}
use Rattle.hunk_link.specs.SymbolTable.{Table, table_of}
use Rattle.hunk_link.proofs.CarriedTargetsLemmas.{targets-ranks}
use Rattle.hunk_link.proofs.RanksLemmas.{All-hunks_of}

pub sizes-carried : SizesAreCarried
sizes-carried units strip = map-map (λ (hunk : FileHunk). hunk.size) (carried_ranked (table_of (hunks_of units)) strip) (hunks_of units)

-- ---- checks that all hunks pass

position_or_len-passed : {X : Type 0} (test : X → Bool) (xs : List X) → All (λ x. test x ≡ true) xs → length xs ≤ position_or_len (λ x. not (test x)) xs
position_or_len-passed test [] all = omega arith
position_or_len-passed {X} test (x ∷ xs) all =
    let Passes : X → Type 0 = λ y. test y ≡ true in
    let rest = position_or_len-passed test xs (All-tail Passes x xs all) in
    rw (All-head Passes x xs all) (omega arith)

position-passed : {X : Type 0} (test : X → Bool) (xs : List X) → All (λ x. test x ≡ true) xs → position (λ x. not (test x)) xs ≡ None
position-passed test xs all = rw (le-ltb (position_or_len (λ x. not (test x)) xs) (length xs) (position_or_len-passed test xs all)) refl

fault_unless-passed : (b : Bool) (fault : BuildFault) (next : Option BuildFault) → b ≡ true → fault_unless b fault next ≡ next
fault_unless-passed b fault next passed = ap (λ t. fault_unless t fault next) passed

fault_at-passed : (fault : ℕ → BuildFault) (place : Option ℕ) (next : Option BuildFault) → place ≡ None → fault_at fault place next ≡ next
fault_at-passed fault place next none = ap (λ p. fault_at fault p next) none

list_all-from : {X : Type 0} (P : X → Type 0) (test : X → Bool) → ((x : X) → P x → test x ≡ true) → (xs : List X) → All P xs → list_all test xs ≡ true
list_all-from P test passes xs all = list_all-from_AllPass test xs (λ k d within. passes _ (all k d within))

sum_by-map : {X Y : Type 0} (f : Y → ℕ) (g : X → Y) (h : X → ℕ) → ((x : X) → f (g x) ≡ h x) → (xs : List X) → sum_by f (map g xs) ≡ sum_by h xs
sum_by-map f g h same [] = refl
sum_by-map f g h same (x ∷ xs) = omega (arith, same x, sum_by-map f g h same xs, sum_by-cons f (g x) (map g xs), sum_by-cons h x xs)

-- ---- one hunk

whole-passed : (count size : ℕ) → count ≡ 4 * size → ((count % 4 == 0) && nat_le count (4 * size)) ≡ true
whole-passed count size is = and_from _ _ (eq-eqb (count % 4) 0 (omega arith)) (le-leb count (4 * size) (omega arith))

module _ (table : Table) (strip : Bool) (ranked : RankedHunk) (typed : IsUnitHunk ranked.hunk) where
  abbrev made : FileHunk
  made = carried_ranked table strip ranked

  content-passed : has_content made ≡ true
  content-passed =
      let bytes = ranked.hunk.content in
      let count = length-patched_bytes (length bytes) bytes ranked.hunk.sites.entries (λ adds. (addend_of ranked.first (reference_addends table ranked.hunk) adds).known) in
      go ranked.hunk.kind (length made.content) (count ∙ typed.whole)
    where
      go : (kind : HunkKind) (count : ℕ) → count ≡ content_bytes kind ranked.hunk.size → ((count % 4 == 0) && nat_le count (most_content kind ranked.hunk.size)) ≡ true
      go Code count is = whole-passed count ranked.hunk.size is
      go Data count is = whole-passed count ranked.hunk.size is
      go Bss count is = whole-passed count 0 is

  limit-passed : has_limit made ≡ true
  limit-passed = eq-eqb (4 * ranked.hunk.size) (4 * ranked.hunk.size) refl

  names-passed : has_names made ≡ true
  names-passed = go strip
    where
      go : (s : Bool) → list_all (λ symbol. nat_le (length symbol.0) most_name) (unless_stripped s ranked.hunk.symbols) ≡ true
      go true = refl
      go false = list_all-from (λ symbol. length symbol.0 ≤ most_name) (λ symbol. nat_le (length symbol.0) most_name) (λ symbol few. le-leb (length symbol.0) most_name few) ranked.hunk.symbols typed.names

targets-passed : (count : ℕ) (hunk : FileHunk) → NamesRanks count hunk → has_targets count hunk ≡ true
targets-passed count hunk below = list_all-from (λ site. site.1 < count) (λ site. nat_lt site.1 count) (λ site low. lt-ltb site.1 count low) hunk.sites.entries below

carried_by-same : (table : Table) (strip : Bool) (ranked : RankedHunk) → file_carried_by (carried_ranked table strip ranked) ≡ carried_by strip ranked.hunk
carried_by-same table true ranked = refl
carried_by-same table false ranked = refl

-- ---- all of them

pub carried-accepted : CarriedIsAccepted
carried-accepted units strip typed linkable =
    let hunks = hunks_of units in
    let table = table_of hunks in
    let make = carried_ranked table strip in
    let made = carried units strip in
    let each : All (λ ranked. IsUnitHunk ranked.hunk) hunks = All-hunks_of IsUnitHunk units typed in
    let size : file_size made ≡ sum_by (λ ranked. ranked.hunk.size) hunks = sum_by-map (λ (hunk : FileHunk). hunk.size) make (λ ranked. ranked.hunk.size) (λ ranked. refl) hunks in
    let longwords : carried_longwords made ≡ sum_by (λ ranked. carried_by strip ranked.hunk) hunks = sum_by-map file_carried_by make (λ ranked. carried_by strip ranked.hunk) (carried_by-same table strip) hunks in
    let count : length made ≡ length hunks = length-map hunks make in
    let counted : is_hunk_count (length made) ≡ true = and_from _ _ (le-leb 1 (length made) (omega arith)) (le-leb (length made) most_hunks (omega arith)) in
    let small : is_small made ≡ true = and_from _ _ (le-leb (file_size made) most_size (omega arith)) (le-leb (carried_longwords made) most_carried (omega arith)) in
    let content = position-passed has_content made (All-map (λ h. has_content h ≡ true) make hunks (λ k d within. content-passed table strip (get_or hunks k d) (each k d within))) in
    let limit = position-passed has_limit made (All-map (λ h. has_limit h ≡ true) make hunks (λ k d within. limit-passed table strip (get_or hunks k d) (each k d within))) in
    let names = position-passed has_names made (All-map (λ h. has_names h ≡ true) make hunks (λ k d within. names-passed table strip (get_or hunks k d) (each k d within))) in
    let targets = position-passed (has_targets (length made)) made (λ k d within. targets-passed (length made) (get_or made k d) (subst (λ n. NamesRanks n (get_or made k d)) (sym count) (targets-ranks units strip typed linkable k d within))) in
    fault_unless-passed _ HunkCount _ counted
    ∙ fault_unless-passed _ TooLarge _ small
    ∙ fault_at-passed Content _ _ content
    ∙ fault_at-passed SiteLimit _ _ limit
    ∙ fault_at-passed Target _ _ targets
    ∙ fault_at-passed LongName _ _ names
