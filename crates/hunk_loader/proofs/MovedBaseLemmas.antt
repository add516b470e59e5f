-- What the bytes of a hunk tell of its sites and its content, where the hunks of its file are placed
-- twice, the second time with one of them moved up by 2 ^ 26 bytes.
use Rattle.std.proofs.Common.{◌≡◌, ◌≢◌, ◌⊎◌, inl, inr, ℕ, zero, suc, ◌+◌, ◌-◌, ◌*◌, ◌%◌, ◌^◌, ◌<◌, ◌≤◌, ◌==◌, Bool, if◌then◌else◌, List, [], ◌∷◌, Option, Some, None, slice_index, eq-eqb, refl, sym, ap, subst, ◌∙◌, arith}
use Rattle.std.specs.List.{All}
use Rattle.std.specs.Option.{option_eq}
use Rattle.std.proofs.lemmas.Bool.{cases_Bool, cases_eq, ne_eqb}
use Rattle.std.proofs.lemmas.List.Elements.{All-head, All-tail}
use Rattle.byteorder.specs.Endian.{big_bytes, big_from}
use Rattle.byteorder.specs.Numbers.{big_from-lt, big_number-reads_back}
use Rattle.hunk_base.specs.Sites.{StandFrom, target_at}
use Rattle.hunk_loadfile.specs.Patching.{holds, patched, patched_in, site_over, sum_at}
use Rattle.hunk_loadfile.proofs.DifferenceLemmas.{sites-same, target_at-apart, target_at-below, target_at-here}
use Rattle.hunk_loadfile.proofs.DifferenceLawLemmas.{option_eq-itself}
use Rattle.hunk_loadfile.proofs.PatchingLemmas.{Side, before, within, behind, side, holds-behind, holds-below, holds-inside}
use Rattle.hunk_loadfile.proofs.PatchingTwiceLemmas.{site_over-is}

-- ---- the site over a byte, and the site that begins there

-- the target at an offset, by the site over it
abbrev begun : ℕ × ℕ → Bool → Option ℕ
begun site begins = if begins then Some site.1 else None

abbrev target_over : Option (ℕ × ℕ) → ℕ → Option ℕ
target_over None i = None
target_over (Some site) i = begun site (i == site.0)

target_at-over : (from limit : ℕ) (sites : List (ℕ × ℕ)) (i : ℕ) → StandFrom from limit sites → target_at sites i ≡ target_over (site_over sites i) i
target_at-over from limit [] i apart = refl
target_at-over from limit (site ∷ sites) i apart = go (side site.0 i) (target_at-over (site.0 + 4) limit sites i apart.2)
  where
    go : Side site.0 i → target_at sites i ≡ target_over (site_over sites i) i → target_at (site ∷ sites) i ≡ target_over (site_over (site ∷ sites) i) i
    go (before low) rest = rw (holds-below site.0 i low) (target_at-apart site sites i (λ e. absurd (omega arith)) ∙ rest)
    go (behind past) rest = rw (holds-behind site.0 i past) (target_at-apart site sites i (λ e. absurd (omega arith)) ∙ rest)
    go (within start high) rest = rw (holds-inside site.0 i start high) (elim (cases_eq i site.0) [
      | inl same ↦ target_at-here site sites i same ∙ sym (ap (λ b. begun site b) (eq-eqb i site.0 same))
      | inr elsewhere ↦ target_at-apart site sites i elsewhere ∙ target_at-below (site.0 + 4) limit i sites apart.2 high ∙ sym (ap (λ b. begun site b) (ne_eqb i site.0 elsewhere))
    ])

-- a site that is over a byte ends at the limit or before
site_over-within : (from limit : ℕ) (sites : List (ℕ × ℕ)) (i : ℕ) (site : ℕ × ℕ) → StandFrom from limit sites → site_over sites i ≡ Some site → site.0 + 4 ≤ limit
site_over-within from limit [] i site apart is = absurd (cc)
site_over-within from limit (first ∷ sites) i site apart is = elim (cases_Bool (holds first.0 i)) [
  | inl inside ↦
      let found : ◌≡◌ {A = Option (ℕ × ℕ)} (Some first) (Some site) = rw inside at is in
      let same : first ≡ site = cc in
      let P : ℕ × ℕ → Type 0 = λ s. s.0 + 4 ≤ limit in
      subst P same apart.1
  | inr outside ↦ site_over-within (first.0 + 4) limit sites i site apart.2 (rw outside at is)
]

-- the target of a site is that of one in the list
target_at-below_count : (count : ℕ) (sites : List (ℕ × ℕ)) (i target : ℕ) → All (λ site. site.1 < count) sites → target_at sites i ≡ Some target → target < count
target_at-below_count count [] i target all is = absurd (cc)
target_at-below_count count (site ∷ sites) i target all is = elim (cases_eq i site.0) [
  | inl here ↦
      let found : ◌≡◌ {A = Option ℕ} (Some site.1) (Some target) = sym (target_at-here site sites i here) ∙ is in
      let same : site.1 ≡ target = cc in
      let first : site.1 < count = All-head (λ (s : ℕ × ℕ). s.1 < count) site sites all in
      omega arith
  | inr elsewhere ↦ target_at-below_count count sites i target (All-tail (λ s. s.1 < count) site sites all) (sym (target_at-apart site sites i elsewhere) ∙ is)
]

-- ---- a longword to which 2 ^ 26 more is added

-- another first byte
first-moved : (longword base : ℕ) → slice_index (big_bytes 4 ((longword + (base + 2 ^ 26)) % 2 ^ 32)) 0 ≡ slice_index (big_bytes 4 ((longword + base) % 2 ^ 32)) 0 → ⊥
first-moved longword base same = omega arith

-- and the same other bytes
rest-moved : (longword base k : ℕ) → 0 < k → k < 4 → slice_index (big_bytes 4 ((longword + (base + 2 ^ 26)) % 2 ^ 32)) k ≡ slice_index (big_bytes 4 ((longword + base) % 2 ^ 32)) k
rest-moved longword base zero some few = absurd (omega arith)
rest-moved longword base (suc zero) some few = omega arith
rest-moved longword base (suc (suc zero)) some few = omega arith
rest-moved longword base (suc (suc (suc zero))) some few = omega arith
rest-moved longword base (suc (suc (suc (suc k)))) some few = absurd (omega arith)

-- ---- which bytes change

module _ (content : List ℕ) (sites : List (ℕ × ℕ)) (limit : ℕ) (apart : StandFrom 0 limit sites) (bases others : ℕ → ℕ) (target : ℕ)
    (up : others target ≡ bases target + 2 ^ 26) (same : (hunk : ℕ) → hunk ≢ target → others hunk ≡ bases hunk) (i : ℕ) where
  -- the first byte of each site of this target,
  pub changed-at : target_at sites i ≡ Some target → patched content sites bases i ≢ patched content sites others i
  changed-at is equal = go (site_over sites i) refl
    where
      go : (over : Option (ℕ × ℕ)) → site_over sites i ≡ over → ⊥
      go None none = let no : None ≡ Some target = sym (ap (λ o. target_over o i) none) ∙ sym (target_at-over 0 limit sites i apart) ∙ is in absurd (cc)
      go (Some site) found =
          let there : target_over (Some site) i ≡ Some target = sym (ap (λ o. target_over o i) found) ∙ sym (target_at-over 0 limit sites i apart) ∙ is in
          elim (cases_eq i site.0) [
            | inl begins ↦
                let named : ◌≡◌ {A = Option ℕ} (Some site.1) (Some target) = rw (eq-eqb i site.0 begins) at there in
                let is_target : site.1 ≡ target = cc in
                let longword : ℕ = big_from site.0 4 content in
                let first : i - site.0 ≡ 0 = omega arith in
                let one : patched content sites bases i ≡ slice_index (big_bytes 4 ((longword + bases target) % 2 ^ 32)) 0 =
                ap (λ o. patched_in content bases o i) found ∙ ap (λ t. slice_index (big_bytes 4 ((longword + bases t) % 2 ^ 32)) (i - site.0)) is_target ∙ ap (λ k. slice_index (big_bytes 4 ((longword + bases target) % 2 ^ 32)) k) first in
                let other : patched content sites others i ≡ slice_index (big_bytes 4 ((longword + (bases target + 2 ^ 26)) % 2 ^ 32)) 0 =
                ap (λ o. patched_in content others o i) found ∙ ap (λ t. slice_index (big_bytes 4 ((longword + others t) % 2 ^ 32)) (i - site.0)) is_target ∙ ap (λ k. slice_index (big_bytes 4 ((longword + others target) % 2 ^ 32)) k) first
                ∙ ap (λ base. slice_index (big_bytes 4 ((longword + base) % 2 ^ 32)) 0) up in
                first-moved longword (bases target) (sym other ∙ sym equal ∙ one)
            | inr elsewhere ↦ let no : ◌≡◌ {A = Option ℕ} None (Some target) = rw (ne_eqb i site.0 elsewhere) at there in absurd (cc)
          ]

  -- and no other one
  pub unchanged-at : target_at sites i ≢ Some target → patched content sites bases i ≡ patched content sites others i
  unchanged-at is_not = go (site_over sites i) refl
    where
      go : (over : Option (ℕ × ℕ)) → site_over sites i ≡ over → patched content sites bases i ≡ patched content sites others i
      go None none = ap (λ o. patched_in content bases o i) none ∙ sym (ap (λ o. patched_in content others o i) none)
      go (Some site) found =
          let over = site_over-is 0 limit sites i site apart found in
          let longword : ℕ = big_from site.0 4 content in
          let at : (addend : ℕ → ℕ) → patched content sites addend i ≡ slice_index (big_bytes 4 ((longword + addend site.1) % 2 ^ 32)) (i - site.0) = λ addend. ap (λ o. patched_in content addend o i) found in
          elim (cases_eq site.1 target) [
            | inl named ↦
                let inside : i ≢ site.0 = λ begins. is_not (target_at-over 0 limit sites i apart ∙ ap (λ o. target_over o i) found ∙ (rw (eq-eqb i site.0 begins) (ap Some named))) in
                let more : others site.1 ≡ bases site.1 + 2 ^ 26 = ap others named ∙ up ∙ ap (λ t. bases t + 2 ^ 26) (sym named) in
                at bases ∙ sym (rest-moved longword (bases site.1) (i - site.0) (omega (arith, over.low)) (omega (arith, over.high))) ∙ ap (λ base. slice_index (big_bytes 4 ((longword + base) % 2 ^ 32)) (i - site.0)) (sym more) ∙ sym (at others)
            | inr other ↦ at bases ∙ ap (λ base. slice_index (big_bytes 4 ((longword + base) % 2 ^ 32)) (i - site.0)) (sym (same site.1 other)) ∙ sym (at others)
          ]

-- ---- the targets

is_target : (found : Option ℕ) (target : ℕ) → (found ≡ Some target) ⊎ (found ≢ Some target)
is_target None target = inr (λ e. absurd (cc))
is_target (Some t) target = elim (cases_eq t target) [ inl same ↦ inl (ap Some same) | inr apart ↦ inr (λ e. let same : t ≡ target = cc in apart same) ]

-- two looks that find the same targets
same-targets : (count : ℕ) (one other : Option ℕ) → ((t : ℕ) → one ≡ Some t → t < count) → ((t : ℕ) → other ≡ Some t → t < count) → ((t : ℕ) → t < count → one ≡ Some t → other ≡ Some t)
    → ((t : ℕ) → t < count → other ≡ Some t → one ≡ Some t) → one ≡ other
same-targets count None None low high forth back = refl
same-targets count None (Some t) low high forth back = back t (high t refl) refl
same-targets count (Some t) other low high forth back = sym (forth t (low t refl) refl)

-- the hunks at their bases, and with one of them moved up
pub record MovedUp (count : ℕ) (bases : ℕ → ℕ) (moved : ℕ → ℕ → ℕ) : Type 0 where
  pub up : (target : ℕ) → target < count → moved target target ≡ bases target + 2 ^ 26
  pub same : (target hunk : ℕ) → hunk ≢ target → moved target hunk ≡ bases hunk

-- the same bytes at all these bases, up to a limit
pub record SameBytes (limit : ℕ) (first second : List ℕ) (sites others : List (ℕ × ℕ)) (bases : ℕ → ℕ) (moved : ℕ → ℕ → ℕ) : Type 0 where
  pub placed : (i : ℕ) → i < limit → patched first sites bases i ≡ patched second others bases i
  pub moved_up : (target i : ℕ) → i < limit → patched first sites (moved target) i ≡ patched second others (moved target) i

-- where the one list has a site of a target the other one has it too
target-told : (count limit : ℕ) (first second : List ℕ) (sites others : List (ℕ × ℕ)) (bases : ℕ → ℕ) (moved : ℕ → ℕ → ℕ) → MovedUp count bases moved → SameBytes limit first second sites others bases moved
    → StandFrom 0 limit sites → StandFrom 0 limit others → (i : ℕ) → i < limit → (target : ℕ) → target < count → target_at sites i ≡ Some target → target_at others i ≡ Some target
target-told count limit first second sites others bases moved up same apart separate i low target few is = elim (is_target (target_at others i) target) [
  | inl there ↦ there
  | inr not_there ↦
      let unchanged = unchanged-at second others limit separate bases (moved target) target (up.up target few) (up.same target) i not_there in
      absurd (changed-at first sites limit apart bases (moved target) target (up.up target few) (up.same target) i is (same.placed i low ∙ unchanged ∙ sym (same.moved_up target i low)))
]

pub sites-told : (count limit : ℕ) (first second : List ℕ) (sites others : List (ℕ × ℕ)) (bases : ℕ → ℕ) (moved : ℕ → ℕ → ℕ) → MovedUp count bases moved → SameBytes limit first second sites others bases moved
    → StandFrom 0 limit sites → StandFrom 0 limit others → All (λ site. site.1 < count) sites → All (λ site. site.1 < count) others → sites ≡ others
sites-told count limit first second sites others bases moved up same apart separate few fewer =
    let turned : SameBytes limit second first others sites bases moved = record { placed = λ i low. sym (same.placed i low); moved_up = λ target i low. sym (same.moved_up target i low) } in
    sites-same limit sites others apart separate (λ i low.
    let found = same-targets count (target_at sites i) (target_at others i) (λ t. target_at-below_count count sites i t few) (λ t. target_at-below_count count others i t fewer)
    (target-told count limit first second sites others bases moved up same apart separate i low)
    (target-told count limit second first others sites bases moved up turned separate apart i low) in
    ap (λ target. option_eq ◌==◌ target (target_at others i)) found ∙ option_eq-itself (target_at others i))

-- ---- the content

-- four bytes of one longword
four-same : (a b c d p q r s : ℕ) → a < 256 → b < 256 → c < 256 → d < 256 → p < 256 → q < 256 → r < 256 → s < 256
    → a * 256 ^ 3 + (b * 256 ^ 2 + (c * 256 ^ 1 + (d * 256 ^ 0 + 0))) ≡ p * 256 ^ 3 + (q * 256 ^ 2 + (r * 256 ^ 1 + (s * 256 ^ 0 + 0)))
    → (a ≡ p) × (b ≡ q) × (c ≡ r) × (d ≡ s)
four-same a b c d p q r s ha hb hc hd hp hq hr hs same = (omega arith, omega arith, omega arith, omega arith)

bytes-of : (offset : ℕ) (first second : List ℕ) → ((k : ℕ) → slice_index first k < 256) → ((k : ℕ) → slice_index second k < 256) → big_from offset 4 first ≡ big_from offset 4 second
    → (i : ℕ) → offset ≤ i → i < offset + 4 → slice_index first i ≡ slice_index second i
bytes-of offset first second small few same i low high =
    let four = four-same (slice_index first offset) (slice_index first (suc offset)) (slice_index first (suc (suc offset))) (slice_index first (suc (suc (suc offset)))) (slice_index second offset) (slice_index second (suc offset)) (slice_index second (suc (suc offset))) (slice_index second (suc (suc (suc offset))))
    (small offset) (small (suc offset)) (small (suc (suc offset))) (small (suc (suc (suc offset)))) (few offset) (few (suc offset)) (few (suc (suc offset))) (few (suc (suc (suc offset)))) same in
    elim (cases_eq i offset) [
      | inl first_one ↦ let P : ℕ → Type 0 = λ k. slice_index first k ≡ slice_index second k in subst P (sym first_one) four.0
      | inr not_first ↦ elim (cases_eq i (suc offset)) [
        | inl second_one ↦ let P : ℕ → Type 0 = λ k. slice_index first k ≡ slice_index second k in subst P (sym second_one) four.1
        | inr not_second ↦ elim (cases_eq i (suc (suc offset))) [
          | inl third ↦ let P : ℕ → Type 0 = λ k. slice_index first k ≡ slice_index second k in subst P (sym third) four.2
          | inr last ↦ let fourth : suc (suc (suc offset)) ≡ i = omega arith in let P : ℕ → Type 0 = λ k. slice_index first k ≡ slice_index second k in subst P fourth four.3
        ]
      ]
    ]

-- an addition modulo 2 ^ 32 that is undone
same-longword : (one other base : ℕ) → one < 256 ^ 4 → other < 256 ^ 4 → (one + base) % 2 ^ 32 ≡ (other + base) % 2 ^ 32 → one ≡ other
same-longword one other base small few same = omega arith

-- the number in the same bytes
big_from-below : (n from : ℕ) (some others : List ℕ) → ((k : ℕ) → k < from + n → slice_index some k ≡ slice_index others k) → big_from from n some ≡ big_from from n others
big_from-below zero from some others same = refl
big_from-below (suc n) from some others same =
    let byte = same from (omega arith) in
    let rest = big_from-below n (suc from) some others (λ k low. same k (omega arith)) in
    rw (byte, rest) refl

-- Bytes that are the same once the bases are added were the same before.
pub bytes-before : (first second : List ℕ) (sites : List (ℕ × ℕ)) (limit : ℕ) (bases : ℕ → ℕ) → StandFrom 0 limit sites → ((k : ℕ) → slice_index first k < 256) → ((k : ℕ) → slice_index second k < 256)
    → ((k : ℕ) → k < limit → patched first sites bases k ≡ patched second sites bases k) → (i : ℕ) → i < limit → slice_index first i ≡ slice_index second i
bytes-before first second sites limit bases apart small few same i low = go (site_over sites i) refl
  where
    go : (over : Option (ℕ × ℕ)) → site_over sites i ≡ over → slice_index first i ≡ slice_index second i
    go None none = sym (ap (λ o. patched_in first bases o i) none) ∙ same i low ∙ ap (λ o. patched_in second bases o i) none
    go (Some site) found =
        let over = site_over-is 0 limit sites i site apart found in
        let one : ℕ = sum_at first bases site in
        let other : ℕ = sum_at second bases site in
        let byte : (k : ℕ) → k < 4 → slice_index (big_bytes 4 one) k ≡ slice_index (big_bytes 4 other) k = λ k inside.
        let here = over.everywhere (site.0 + k) (omega arith) (omega arith) in
        let place : site.0 + k - site.0 ≡ k = omega arith in
        sym (ap (λ o. patched_in first bases o (site.0 + k)) here ∙ ap (λ j. slice_index (big_bytes 4 one) j) place)
        ∙ same (site.0 + k) (omega (arith, site_over-within 0 limit sites i site apart found))
        ∙ ap (λ o. patched_in second bases o (site.0 + k)) here ∙ ap (λ j. slice_index (big_bytes 4 other) j) place in
        let sums : one ≡ other = sym (big_number-reads_back 4 one [] (omega arith)) ∙ big_from-below 4 0 (big_bytes 4 one) (big_bytes 4 other) (λ k inside. byte k (omega arith)) ∙ big_number-reads_back 4 other [] (omega arith) in
        bytes-of site.0 first second small few
        (same-longword (big_from site.0 4 first) (big_from site.0 4 second) (bases site.1) (big_from-lt site.0 4 first small) (big_from-lt site.0 4 second few) sums)
        i over.low over.high
