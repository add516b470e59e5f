-- Adding numbers at sites twice.
use Rattle.std.proofs.Common.{◌≡◌, ℕ, zero, suc, ◌+◌, ◌-◌, ◌%◌, ◌^◌, ◌<◌, ◌≤◌, true, false, inl, inr, List, [], ◌∷◌, length, Option, Some, None, slice_index, refl, sym, ap, subst, ◌∙◌, add-zero, arith}
use Rattle.std.specs.List.{cons_option}
use Rattle.std.specs.Option.{option_map}
use Rattle.std.proofs.lemmas.Bool.{cases_lt}
use Rattle.std.proofs.lemmas.List.{get_or_past}
use Rattle.byteorder.specs.Endian.{big_bytes, big_from}
use Rattle.byteorder.specs.Numbers.{big_number-reads_back}
use Rattle.hunk_base.specs.Sites.{StandFrom}
use Rattle.hunk_loadfile.specs.Patching.{holds, patched, patched_bytes, patched_in, site_over, sum_at}
use Rattle.hunk_loadfile.specs.Laws.{PatchedTwice, second_addend, second_sites}
use Rattle.hunk_loadfile.proofs.PatchingLemmas.{Side, before, within, behind, side, holds-behind, holds-below, holds-inside, length-patched_bytes, patched_bytes-same, site_over-before, StandFrom-wider, slice_index-patched_bytes}

-- ---- the site over a byte

-- after the limit there is none
site_over-past : {T : Type 0} (from limit : ℕ) (sites : List (ℕ × T)) (i : ℕ) → StandFrom from limit sites → limit ≤ i → site_over sites i ≡ None
site_over-past from limit [] i apart past = refl
site_over-past from limit (site ∷ sites) i apart past =
    rw (holds-behind site.0 i (omega (arith, apart.1))) (site_over-past (site.0 + 4) limit sites i apart.2 past)

-- a site that is over a byte, among sites from here on
pub record Over {T : Type 0} (from : ℕ) (sites : List (ℕ × T)) (i : ℕ) (site : ℕ × T) : Type 0 where
  pub starts : from ≤ site.0
  pub low : site.0 ≤ i
  pub high : i < site.0 + 4
  pub everywhere : (k : ℕ) → site.0 ≤ k → k < site.0 + 4 → site_over sites k ≡ Some site

pub site_over-is : {T : Type 0} (from limit : ℕ) (sites : List (ℕ × T)) (i : ℕ) (site : ℕ × T) → StandFrom from limit sites → site_over sites i ≡ Some site → Over from sites i site
site_over-is from limit [] i site apart is = absurd (cc)
site_over-is {T = T} from limit (first ∷ sites) i site apart is =
    go (side first.0 i) (λ rest. site_over-is (first.0 + 4) limit sites i site apart.2 rest)
  where
    later : holds first.0 i ≡ false → (site_over sites i ≡ Some site → Over (first.0 + 4) sites i site) → Over from (first ∷ sites) i site
    later out rest =
        let behind_first : site_over sites i ≡ Some site = rw out at is in
        let over = rest behind_first in
        record {
          starts = omega (arith, apart.0, over.starts);
          low = over.low;
          high = over.high;
          everywhere = λ k from_site below. rw (holds-behind first.0 k (omega (arith, over.starts))) (over.everywhere k from_site below);
        }

    go : Side first.0 i → (site_over sites i ≡ Some site → Over (first.0 + 4) sites i site) → Over from (first ∷ sites) i site
    go (before low) rest = later (holds-below first.0 i low) rest
    go (behind past) rest = later (holds-behind first.0 i past) rest
    go (within start high) rest =
        let found : ◌≡◌ {A = Option (ℕ × T)} (Some first) (Some site) = rw (holds-inside first.0 i start high) at is in
        let same : first ≡ site = cc in
        subst (λ s. Over from (first ∷ sites) i s) same
        (record { starts = apart.0; low = start; high = high; everywhere = λ k low below. rw (holds-inside first.0 k low below) refl })

-- ---- the sites with a second part

-- one more site, if there is a second part
abbrev one_more : {U : Type 0} → ℕ → Option U → List (ℕ × U) → List (ℕ × U)
one_more offset second sites = cons_option (option_map (λ u. (offset, u)) second) sites

one_more-apart : {U : Type 0} (from limit offset : ℕ) (second : Option U) (sites : List (ℕ × U)) → from ≤ offset → offset + 4 ≤ limit → StandFrom (offset + 4) limit sites → StandFrom from limit (one_more offset second sites)
one_more-apart from limit offset None sites low high apart = StandFrom-wider (offset + 4) from limit limit sites (omega arith) (omega arith) apart
one_more-apart from limit offset (Some second) sites low high apart = (low, high, apart)

one_more-outside : {U : Type 0} (offset i : ℕ) (second : Option U) (sites : List (ℕ × U)) → holds offset i ≡ false → site_over (one_more offset second sites) i ≡ site_over sites i
one_more-outside offset i None sites out = refl
one_more-outside offset i (Some second) sites out = rw out refl

one_more-inside : {U : Type 0} (offset i : ℕ) (second : Option U) (sites : List (ℕ × U)) → holds offset i ≡ true → site_over sites i ≡ None
    → site_over (one_more offset second sites) i ≡ option_map (λ u. (offset, u)) second
one_more-inside offset i None sites inside none = none
one_more-inside offset i (Some second) sites inside none = rw inside refl

second_sites-apart : {T U : Type 0} (part : T → Option U) (from limit : ℕ) (sites : List (ℕ × T)) → StandFrom from limit sites → StandFrom from limit (second_sites part sites)
second_sites-apart part from limit [] apart = tt
second_sites-apart part from limit (site ∷ sites) apart =
    one_more-apart from limit site.0 (part site.1) (second_sites part sites) apart.0 apart.1 (second_sites-apart part (site.0 + 4) limit sites apart.2)

-- what is over a byte the second time
abbrev second_over : {T U : Type 0} → (T → Option U) → Option (ℕ × T) → Option (ℕ × U)
second_over part None = None
second_over part (Some site) = option_map (λ u. (site.0, u)) (part site.1)

site_over-second_sites : {T U : Type 0} (part : T → Option U) (from limit : ℕ) (sites : List (ℕ × T)) (i : ℕ) → StandFrom from limit sites → site_over (second_sites part sites) i ≡ second_over part (site_over sites i)
site_over-second_sites part from limit [] i apart = refl
site_over-second_sites {T = T} {U = U} part from limit (site ∷ sites) i apart =
    go (side site.0 i) (site_over-second_sites part (site.0 + 4) limit sites i apart.2)
  where
    outside : holds site.0 i ≡ false → site_over (second_sites part sites) i ≡ second_over part (site_over sites i) → site_over (second_sites part (site ∷ sites)) i ≡ second_over part (site_over (site ∷ sites) i)
    outside out rest =
        let first_out : site_over (site ∷ sites) i ≡ site_over sites i = rw out refl in
        one_more-outside site.0 i (part site.1) (second_sites part sites) out ∙ rest ∙ ap (λ over. second_over part over) (sym first_out)

    go : Side site.0 i → site_over (second_sites part sites) i ≡ second_over part (site_over sites i) → site_over (second_sites part (site ∷ sites)) i ≡ second_over part (site_over (site ∷ sites) i)
    go (before low) rest = outside (holds-below site.0 i low) rest
    go (behind past) rest = outside (holds-behind site.0 i past) rest
    go (within start high) rest =
        let first_in : site_over (site ∷ sites) i ≡ Some site = rw (holds-inside site.0 i start high) refl in
        let none : site_over (second_sites part sites) i ≡ None = site_over-before (site.0 + 4) limit (second_sites part sites) i (second_sites-apart part (site.0 + 4) limit sites apart.2) high in
        one_more-inside site.0 i (part site.1) (second_sites part sites) (holds-inside site.0 i start high) none ∙ ap (λ over. second_over part over) (sym first_in)

-- ---- the longword of a site, read back

big_from-moved : (n i offset : ℕ) (some others : List ℕ) → ((k : ℕ) → k < i + n → slice_index some (offset + k) ≡ slice_index others k) → big_from (offset + i) n some ≡ big_from i n others
big_from-moved zero i offset some others h = refl
big_from-moved (suc n) i offset some others h =
    let byte = h i (omega arith) in
    let next : suc (offset + i) ≡ offset + suc i = omega arith in
    let rest = big_from-moved n (suc i) offset some others (λ k low. h k (omega arith)) in
    rw (byte, next, rest) refl

module _ {T : Type 0} (content : List ℕ) (sites : List (ℕ × T)) (first : T → ℕ) (apart : StandFrom 0 (length content) sites) where
  abbrev once : List ℕ
  once = patched_bytes (length content) content sites first

  -- after the content, where no site lies, both are zeros
  slice_index-once : (i : ℕ) → slice_index once i ≡ patched content sites first i
  slice_index-once i = elim (cases_lt i (length content)) [
    | inl low ↦ slice_index-patched_bytes (length content) content sites first i low
    | inr past ↦
        get_or_past once i 0 (omega (arith, length-patched_bytes (length content) content sites first))
        ∙ sym (get_or_past content i 0 past)
        ∙ ap (λ over. patched_in content first over i) (sym (site_over-past 0 (length content) sites i apart past))
  ]

  big_from-once : (site : ℕ × T) → ((k : ℕ) → site.0 ≤ k → k < site.0 + 4 → site_over sites k ≡ Some site) → big_from site.0 4 once ≡ sum_at content first site
  big_from-once site everywhere =
      let sum : ℕ = sum_at content first site in
      let small : sum < 256 ^ 4 = omega arith in
      let byte : (k : ℕ) → k < 0 + 4 → slice_index once (site.0 + k) ≡ slice_index (big_bytes 4 sum) k = λ k low.
      let place : site.0 + k - site.0 ≡ k = omega arith in
      slice_index-once (site.0 + k)
      ∙ ap (λ over. patched_in content first over (site.0 + k)) (everywhere (site.0 + k) (omega arith) (omega arith))
      ∙ ap (λ j. slice_index (big_bytes 4 sum) j) place in
      ap (λ o. big_from o 4 once) (sym (add-zero site.0))
      ∙ big_from-moved 4 0 site.0 once (big_bytes 4 sum) byte
      ∙ big_number-reads_back 4 sum [] small

-- ---- twice

sum-twice : (longword first second : ℕ) → ((longword + first) % 2 ^ 32 + second) % 2 ^ 32 ≡ (longword + (first + second)) % 2 ^ 32
sum-twice longword first second = omega arith

module _ {T U : Type 0} (content : List ℕ) (sites : List (ℕ × T)) (part : T → Option U) (first : T → ℕ) (second : U → ℕ) (apart : StandFrom 0 (length content) sites) (i : ℕ) where
  abbrev sums : T → ℕ
  sums target = first target + second_addend second (part target)

  -- the byte of a site with this second part
  byte-twice : (site : ℕ × T) → site_over sites i ≡ Some site → (p : Option U)
      → patched_in (once content sites first apart) second (option_map (λ u. (site.0, u)) p) i
      ≡ slice_index (big_bytes 4 ((big_from site.0 4 content + (first site.1 + second_addend second p)) % 2 ^ 32)) (i - site.0)
  byte-twice site is None =
      slice_index-once content sites first apart i
      ∙ ap (λ over. patched_in content first over i) is
      ∙ ap (λ f. slice_index (big_bytes 4 ((big_from site.0 4 content + f) % 2 ^ 32)) (i - site.0)) (sym (add-zero (first site.1)))
  byte-twice site is (Some u) =
      let over = site_over-is 0 (length content) sites i site apart is in
      ap (λ w. slice_index (big_bytes 4 ((w + second u) % 2 ^ 32)) (i - site.0)) (big_from-once content sites first apart site over.everywhere)
      ∙ ap (λ w. slice_index (big_bytes 4 w) (i - site.0)) (sum-twice (big_from site.0 4 content) (first site.1) (second u))

  patched-over : (over : Option (ℕ × T)) → site_over sites i ≡ over → patched_in (once content sites first apart) second (second_over part over) i ≡ patched_in content sums over i
  patched-over None is = slice_index-once content sites first apart i ∙ ap (λ over. patched_in content first over i) is
  patched-over (Some site) is = byte-twice site is (part site.1)

  patched-twice : patched (once content sites first apart) (second_sites part sites) second i ≡ patched content sites sums i
  patched-twice =
      ap (λ over. patched_in (once content sites first apart) second over i) (site_over-second_sites part 0 (length content) sites i apart)
      ∙ patched-over (site_over sites i) refl

pub patched_bytes-twice : {T U : Type 0} → PatchedTwice T U
patched_bytes-twice content sites part first second count apart =
    patched_bytes-same count (once content sites first apart) content (second_sites part sites) second sites (λ target. first target + second_addend second (part target))
    (λ i. patched-twice content sites part first second apart i)
