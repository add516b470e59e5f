-- Of the hunks of a load file, those are refused again that carry too many symbols and debug blocks, and no others.
use Rattle.std.proofs.Common.{inl, inr, ◌≡◌, ◌∙◌, ◌%◌, ◌*◌, ◌<◌, ◌≤◌, ℕ, Bool, true, not, nat_le, nat_lt, List, [], ◌∷◌, length, Option, Some, None, position, eq-eqb, refl, ap, arith}
use Rattle.std.specs.List.{All, list_all, position_or_len}
use Rattle.std.proofs.lemmas.Bool.{and_from, cases_lt, le-leb, le-ltb, lt-ltb}
use Rattle.std.proofs.lemmas.List.Elements.{All-head, All-tail}
use Rattle.hunk_base.specs.Name.{most_name}
use Rattle.hunk_loadfile.specs.LoadHunk.{FileHunk}
use Rattle.hunk_loadfile.specs.Rules.{IsLoadFile, IsLoadHunk, build_fault, carried_longwords, fault_at, fault_unless, has_content, has_limit, has_names, has_targets, is_hunk_count, is_small, most_carried, most_content, most_hunks, most_size, size_of}
use Rattle.hunk_loadfile.specs.declared.rules.BuildFault.{BuildFault}
use Rattle.hunk_loadfile.specs.declared.rules.BuildFault.TheVariants.{HunkCount, TooLarge, Content, SiteLimit, Target, LongName}

-- ---- checks that all elements pass

list_all-passed : {X : Type 0} (P : X → Type 0) (test : X → Bool) → ((x : X) → P x → test x ≡ true) → (xs : List X) → All P xs → list_all test xs ≡ true
list_all-passed P test passes [] all = refl
list_all-passed P test passes (x ∷ xs) all = and_from _ _ (passes x (All-head P x xs all)) (list_all-passed P test passes xs (All-tail P x xs all))

position_or_len-passed : {X : Type 0} (P : X → Type 0) (test : X → Bool) → ((x : X) → P x → test x ≡ true) → (xs : List X) → All P xs
    → length xs ≤ position_or_len (λ x. not (test x)) xs
position_or_len-passed P test passes [] all = omega arith
position_or_len-passed P test passes (x ∷ xs) all =
    let here = passes x (All-head P x xs all) in
    rw here (omega (arith, position_or_len-passed P test passes xs (All-tail P x xs all)))

position-passed : {X : Type 0} (P : X → Type 0) (test : X → Bool) → ((x : X) → P x → test x ≡ true) → (xs : List X) → All P xs → position (λ x. not (test x)) xs ≡ None
position-passed P test passes xs all = rw (le-ltb (position_or_len (λ x. not (test x)) xs) (length xs) (position_or_len-passed P test passes xs all)) refl

-- ---- the checks of a hunk

module _ (count : ℕ) where
  content-passed : (hunk : FileHunk) → IsLoadHunk count hunk → has_content hunk ≡ true
  content-passed hunk is = and_from _ _ (eq-eqb (length hunk.content % 4) 0 is.whole) (le-leb (length hunk.content) (most_content hunk.kind hunk.size) is.content)

  limit-passed : (hunk : FileHunk) → IsLoadHunk count hunk → has_limit hunk ≡ true
  limit-passed hunk is = eq-eqb hunk.sites.limit (4 * hunk.size) is.limit

  targets-passed : (hunk : FileHunk) → IsLoadHunk count hunk → has_targets count hunk ≡ true
  targets-passed hunk is = list_all-passed (λ site. site.1 < count) (λ site. nat_lt site.1 count) (λ site low. lt-ltb site.1 count low) hunk.sites.entries is.targets

  names-passed : (hunk : FileHunk) → IsLoadHunk count hunk → has_names hunk ≡ true
  names-passed hunk is =
      list_all-passed (λ symbol. length symbol.0 ≤ most_name) (λ symbol. nat_le (length symbol.0) most_name) (λ symbol short. le-leb (length symbol.0) most_name short) hunk.symbols is.names

-- ---- all of them

fault_unless-passed : (b : Bool) (fault : BuildFault) (next : Option BuildFault) → b ≡ true → fault_unless b fault next ≡ next
fault_unless-passed b fault next passed = ap (λ t. fault_unless t fault next) passed

fault_at-passed : (fault : ℕ → BuildFault) (place : Option ℕ) (next : Option BuildFault) → place ≡ None → fault_at fault place next ≡ next
fault_at-passed fault place next none = ap (λ p. fault_at fault p next) none

pub accepted : (hunks : List FileHunk) → IsLoadFile hunks → carried_longwords hunks ≤ most_carried → build_fault hunks ≡ None
accepted hunks is fits =
    let count = length hunks in
    let Is : FileHunk → Type 0 = IsLoadHunk count in
    let counted : is_hunk_count count ≡ true = and_from _ _ (le-leb 1 count is.some) (le-leb count most_hunks is.few) in
    let small : is_small hunks ≡ true = and_from _ _ (le-leb (size_of hunks) most_size is.small) (le-leb (carried_longwords hunks) most_carried fits) in
    fault_unless-passed _ HunkCount _ counted
    ∙ fault_unless-passed _ TooLarge _ small
    ∙ fault_at-passed Content _ _ (position-passed Is has_content (content-passed count) hunks is.each)
    ∙ fault_at-passed SiteLimit _ _ (position-passed Is has_limit (limit-passed count) hunks is.each)
    ∙ fault_at-passed Target _ _ (position-passed Is (has_targets count) (targets-passed count) hunks is.each)
    ∙ fault_at-passed LongName _ _ (position-passed Is has_names (names-passed count) hunks is.each)

pub refused-large : (hunks : List FileHunk) (fault : BuildFault) → IsLoadFile hunks → build_fault hunks ≡ Some fault → most_carried < carried_longwords hunks
refused-large hunks fault is refused = elim (cases_lt most_carried (carried_longwords hunks)) [
  | inl large ↦ large
  | inr fits ↦ let none = accepted hunks is fits in absurd (cc)
]
