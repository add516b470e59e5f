-- What holds of content whose last zeros are cut.
use Rattle.std.proofs.Common.{◌≡◌, ◌==◌, ◌≤◌, ◌<◌, ◌+◌, ◌*◌, ◌%◌, ◌||◌, ◌∙◌, Bool, true, false, not, inl, inr, ℕ, zero, suc, min, max, Option, Some, None, List, [], ◌∷◌, length, take, slice_index, length-take, refl, sym, ap, arith}
use Rattle.std.specs.Option.{is_some}
use Rattle.std.proofs.Math.Path.{fun_ext}
use Rattle.std.proofs.lemmas.Bool.{both_ways, cases_Bool, cases_eq, cases_lt, eqb-true, not-false}
use Rattle.std.proofs.lemmas.List.{get_or_past, get_or-take, length-take-le}
use Rattle.std.proofs.lemmas.List.Elements.{All-take}
use Rattle.hunk_loadfile.specs.LoadHunk.{FileHunk}
use Rattle.hunk_loadfile.specs.Laws.{IsZeroFrom}
use Rattle.hunk_loadfile.specs.Patching.{byte_or_zero, holds, patched_bytes, site_over}
use Rattle.hunk_loadfile.specs.Rules.{IsLoadFile, IsLoadHunk, carried_longwords, most_carried}
use Rattle.hunk_loadfile.specs.Trimming.{is_kept, kept_end, kept_length, trimmed, trimmed_hunk}
use Rattle.hunk_loadfile.proofs.MappedRulesLemmas.{KeepsRules, IsLoadFile-mapped, carried_longwords-mapped}
use Rattle.hunk_loadfile.proofs.PatchingLemmas.{holds-behind, holds-below, holds-inside, patched_bytes-alike}

-- ---- the end of what is kept

pub kept_end-le : (kept : ℕ → Bool) (n : ℕ) → kept_end kept n ≤ n
kept_end-le kept zero = omega arith
kept_end-le kept (suc n) = elim (cases_Bool (kept n)) [
  | inl stays ↦ rw stays (omega arith)
  | inr goes ↦ rw goes (omega (arith, kept_end-le kept n))
]

-- what is behind it is not kept
pub kept_end-behind : (kept : ℕ → Bool) (n i : ℕ) → kept_end kept n ≤ i → i < n → kept i ≡ false
kept_end-behind kept zero i low high = absurd (omega arith)
kept_end-behind kept (suc n) i low high = elim (cases_Bool (kept n)) [
  | inl stays ↦ let past : suc n ≤ i = rw stays at low in absurd (omega arith)
  | inr goes ↦ let past : kept_end kept n ≤ i = rw goes at low in
      elim (cases_eq i n) [ inl last ↦ ap kept last ∙ goes | inr other ↦ kept_end-behind kept n i past (omega arith) ]
]

-- It is the least such place.
pub kept_end-least : (kept : ℕ → Bool) (n place : ℕ) → ((i : ℕ) → place ≤ i → i < n → kept i ≡ false) → kept_end kept n ≤ place
kept_end-least kept zero place behind = omega arith
kept_end-least kept (suc n) place behind = elim (cases_Bool (kept n)) [
  | inl stays ↦ elim (cases_lt n place) [
    | inl low ↦ rw stays (omega arith)
    | inr past ↦ absurd (both_ways (kept n) (behind n past (omega arith)) stays)
  ]
  | inr goes ↦ rw goes (kept_end-least kept n place (λ i past low. behind i past (omega arith)))
]

-- where nothing is kept
pub kept_end-none : (n : ℕ) → kept_end (λ i. false) n ≡ 0
kept_end-none zero = refl
kept_end-none (suc n) = kept_end-none n

-- what is kept for either of two reasons
pub kept_end-either : (one other : ℕ → Bool) (n : ℕ) → kept_end (λ i. one i || other i) n ≡ max (kept_end one n) (kept_end other n)
kept_end-either one other zero = refl
kept_end-either one other (suc n) = elim (cases_Bool (one n)) [
  | inl stays ↦ elim (cases_Bool (other n)) [
    | inl both ↦ rw (stays, both) (omega arith)
    | inr goes ↦ rw (stays, goes) (omega (arith, kept_end-le other n))
  ]
  | inr goes ↦ elim (cases_Bool (other n)) [
    | inl stays ↦ rw (goes, stays) (omega (arith, kept_end-le one n))
    | inr neither ↦ rw (goes, neither) (kept_end-either one other n)
  ]
]

-- ---- the end of the sites

-- the end of the bytes, among the first n, that sites include
abbrev pub sites_end : {T : Type 0} → List (ℕ × T) → ℕ → ℕ
sites_end sites n = kept_end (λ i. is_some (site_over sites i)) n

pub site_end-behind : (offset n : ℕ) → n ≤ offset → kept_end (holds offset) n ≡ 0
site_end-behind offset zero low = refl
site_end-behind offset (suc n) low = rw (holds-below offset n (omega arith)) (site_end-behind offset n (omega arith))

pub site_end-inside : (offset n : ℕ) → offset < n → kept_end (holds offset) n ≡ min n (offset + 4)
site_end-inside offset zero high = absurd (omega arith)
site_end-inside offset (suc n) high = elim (cases_lt n (offset + 4)) [
  | inl within ↦ rw (holds-inside offset n (omega arith) within) (omega arith)
  | inr past ↦ rw (holds-behind offset n past) (omega (arith, site_end-inside offset n (omega arith)))
]

site_over-either : {T : Type 0} (site : ℕ × T) (sites : List (ℕ × T)) (i : ℕ) → is_some (site_over (site ∷ sites) i) ≡ (holds site.0 i || is_some (site_over sites i))
site_over-either site sites i = elim (cases_Bool (holds site.0 i)) [
  | inl inside ↦ rw inside refl
  | inr outside ↦ rw outside refl
]

sites_end-first : {T : Type 0} (site : ℕ × T) (sites : List (ℕ × T)) (n : ℕ) → sites_end (site ∷ sites) n ≡ max (kept_end (holds site.0) n) (sites_end sites n)
sites_end-first site sites n =
    ap (λ kept. kept_end kept n) (fun_ext (site_over-either site sites))
    ∙ kept_end-either (holds site.0) (λ i. is_some (site_over sites i)) n

-- what a loop over the sites keeps: at its begin, in each step, and at its end
pub ends-init : {T : Type 0} (content : List ℕ) (sites : List (ℕ × T)) (n : ℕ)
    → max (kept_end (λ i. not (byte_or_zero content i == 0)) n) (sites_end sites n) ≡ kept_end (is_kept content sites) n
ends-init content sites n = sym (kept_end-either (λ i. not (byte_or_zero content i == 0)) (λ i. is_some (site_over sites i)) n)

pub ends-behind : {T : Type 0} (left rest : List (ℕ × T)) (site : ℕ × T) (n all end : ℕ) → left ≡ site ∷ rest → n ≤ site.0
    → max end (sites_end left n) ≡ all → max end (sites_end rest n) ≡ all
ends-behind left rest site n all end shown past is =
    omega (arith, is, ap (λ sites. sites_end sites n) shown, sites_end-first site rest n, site_end-behind site.0 n past)

pub ends-inside : {T : Type 0} (left rest : List (ℕ × T)) (site : ℕ × T) (n all end new : ℕ) → left ≡ site ∷ rest → site.0 < n → new ≡ max end (min n (site.0 + 4))
    → max end (sites_end left n) ≡ all → max new (sites_end rest n) ≡ all
ends-inside left rest site n all end new shown low next is =
    omega (arith, is, next, ap (λ sites. sites_end sites n) shown, sites_end-first site rest n, site_end-inside site.0 n low)

pub ends-none : {T : Type 0} (left : List (ℕ × T)) (n all end : ℕ) → left ≡ [] → max end (sites_end left n) ≡ all → end ≡ all
ends-none {T = T} left n all end none is = omega (arith, is, ap (λ sites. sites_end sites n) none, kept_end-none n)

-- ---- bytes

pub kept_length-le : {T : Type 0} (content : List ℕ) (sites : List (ℕ × T)) → length content % 4 ≡ 0 → kept_length content sites ≤ length content
kept_length-le content sites whole = omega (arith, kept_end-le (is_kept content sites) (length content))

or-false : (one other : Bool) → (one || other) ≡ false → one ≡ false
or-false true other h = absurd (cc)
or-false false other h = refl

or-false_right : (one other : Bool) → (one || other) ≡ false → other ≡ false
or-false_right true other h = absurd (cc)
or-false_right false other h = h

is_some-false : {T : Type 0} (item : Option T) → is_some item ≡ false → item ≡ None
is_some-false None h = refl
is_some-false (Some x) h = absurd (cc)

-- bytes behind what is kept are zeros
zero-behind : {T : Type 0} (content : List ℕ) (sites : List (ℕ × T)) (i : ℕ) → kept_length content sites ≤ i → slice_index content i ≡ 0
zero-behind content sites i past = elim (cases_lt i (length content)) [
  | inl low ↦
      let out = kept_end-behind (is_kept content sites) (length content) i (omega arith) low in
      eqb-true (slice_index content i) 0 (not-false (slice_index content i == 0) (or-false (not (slice_index content i == 0)) (is_some (site_over sites i)) out))
  | inr high ↦ get_or_past content i 0 high
]

-- so no byte changes
pub slice_index-trimmed : {T : Type 0} (content : List ℕ) (sites : List (ℕ × T)) (i : ℕ) → slice_index (take (kept_length content sites) content) i ≡ slice_index content i
slice_index-trimmed content sites i = elim (cases_lt i (kept_length content sites)) [
  | inl low ↦ get_or-take (kept_length content sites) content i 0 low
  | inr past ↦
      get_or_past (take (kept_length content sites) content) i 0 (omega (arith, length-take (kept_length content sites) content))
      ∙ sym (zero-behind content sites i past)
]

pub patched_bytes-trimmed : {T : Type 0} (count : ℕ) (content : List ℕ) (sites : List (ℕ × T)) (addend : T → ℕ)
    → patched_bytes count (take (kept_length content sites) content) sites addend ≡ patched_bytes count content sites addend
patched_bytes-trimmed count content sites addend =
    patched_bytes-alike count (take (kept_length content sites) content) content sites addend (slice_index-trimmed content sites)

-- ---- what is cut

abbrev content_end : FileHunk → ℕ
content_end hunk = kept_length hunk.content hunk.sites.entries

pub trimmed-zeros : (hunk : FileHunk) → IsZeroFrom hunk (length (trimmed_hunk hunk).content)
trimmed-zeros hunk i past low =
    let behind : content_end hunk ≤ i = omega (arith, length-take (content_end hunk) hunk.content) in
    let out = kept_end-behind (is_kept hunk.content hunk.sites.entries) (length hunk.content) i (omega arith) low in (
      zero-behind hunk.content hunk.sites.entries i behind,
      is_some-false (site_over hunk.sites.entries i) (or-false_right (not (slice_index hunk.content i == 0)) (is_some (site_over hunk.sites.entries i)) out),
    )

pub trimmed-shortest : (hunk : FileHunk) (longwords : ℕ) → IsZeroFrom hunk (4 * longwords) → length (trimmed_hunk hunk).content ≤ 4 * longwords
trimmed-shortest hunk longwords zeros =
    let least = kept_end-least (is_kept hunk.content hunk.sites.entries) (length hunk.content) (4 * longwords)
    (λ i past low. let byte = (zeros i past low).0 in let none = (zeros i past low).1 in rw (byte, none) refl) in
    omega (arith, least, length-take (content_end hunk) hunk.content)

-- ---- the rules

-- a hunk whose content is cut after a longword
pub IsLoadHunk-cut : (count kept : ℕ) (hunk : FileHunk) → kept % 4 ≡ 0 → kept ≤ length hunk.content → IsLoadHunk count hunk → IsLoadHunk count (record hunk { content = take kept hunk.content })
IsLoadHunk-cut count kept hunk even low valid =
    let counted : length (take kept hunk.content) ≡ kept = length-take-le kept hunk.content low in
    record {
      typed = record { bytes = All-take (λ b. b < 256) kept hunk.content valid.typed.bytes; apart = valid.typed.apart; symbols = valid.typed.symbols; debugs = valid.typed.debugs };
      whole = omega (arith, counted);
      content = omega (arith, counted, valid.content);
      limit = valid.limit;
      targets = valid.targets;
      names = valid.names;
    }

IsLoadHunk-trimmed : (count : ℕ) (hunk : FileHunk) → IsLoadHunk count hunk → IsLoadHunk count (trimmed_hunk hunk)
IsLoadHunk-trimmed count hunk valid = IsLoadHunk-cut count (kept_length hunk.content hunk.sites.entries) hunk (omega arith) (kept_length-le hunk.content hunk.sites.entries valid.whole) valid

pub KeepsRules-trimmed : KeepsRules trimmed_hunk
KeepsRules-trimmed = record { size = λ hunk. refl; carries = λ hunk. omega arith; each = IsLoadHunk-trimmed }

pub IsLoadFile-trimmed : (hunks : List FileHunk) → IsLoadFile hunks → IsLoadFile (trimmed hunks)
IsLoadFile-trimmed = IsLoadFile-mapped trimmed_hunk KeepsRules-trimmed

pub carried_longwords-trimmed : (hunks : List FileHunk) → carried_longwords hunks ≤ most_carried → carried_longwords (trimmed hunks) ≤ most_carried
carried_longwords-trimmed hunks few = omega (arith, few, carried_longwords-mapped trimmed_hunk KeepsRules-trimmed hunks)
