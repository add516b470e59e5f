-- What holds of bytes to whose longwords numbers are added.
use Rattle.std.proofs.Common.{◌≡◌, ℕ, ◌+◌, ◌-◌, ◌%◌, ◌^◌, ◌<◌, ◌≤◌, true, false, inl, inr, List, [], ◌∷◌, ◌++◌, length, map, replicate, take, drop, zero, suc, add-zero, append-nil, length-take, length-drop, slice_index, Option, Some, None, refl, sym, ap, subst, ◌∙◌, zero-add, arith}
use Rattle.std.specs.List.{All, AllByRecursion, range_with_len}
use Rattle.std.proofs.lemmas.Bool.{cases_lt}
use Rattle.std.proofs.lemmas.Bool.Decides.{nat_tests}
use Rattle.std.proofs.lemmas.List.{ext_get_or, get_or_past, get_or_append_left, get_or-append_right, get_or-take, get_or-drop, drop_all, drop-drop, length-append, length-take-le, take-append-drop}
use Rattle.std.proofs.lemmas.List.Elements.{All-from_get_or, recursion_from_All}
use Rattle.std.proofs.lemmas.List.FromFn.{get_or-map-range_with_len, length-map-range_with_len}
use Rattle.std.proofs.Math.Path.{fun_ext}
use borrow.Rule.Slice.PartMut.{put_mid}
use Rattle.byteorder.specs.Endian.{big_bytes, big_from, big_number}
use Rattle.byteorder.specs.Numbers.{big_from-take}
use Rattle.hunk_base.specs.Sites.{StandFrom}
use Rattle.hunk_base.proofs.NameLemmas.{big_bytes-of_four}
use Rattle.hunk_loadfile.specs.Patching.{holds, site_over, patched, patched_in, patched_bytes, sum_at}

-- ---- which bytes a site holds

pub holds-inside : (offset i : ℕ) → offset ≤ i → i < offset + 4 → holds offset i ≡ true
holds-inside offset i low high = grind (arith, nat_tests)

pub holds-below : (offset i : ℕ) → i < offset → holds offset i ≡ false
holds-below offset i below = grind (arith, nat_tests)

pub holds-behind : (offset i : ℕ) → offset + 4 ≤ i → holds offset i ≡ false
holds-behind offset i behind = grind (arith, nat_tests)

-- a byte is before a site, in it or after it
pub data Side (offset i : ℕ) : Type 0 where
  before : i < offset → Side offset i
  within : offset ≤ i → i < offset + 4 → Side offset i
  behind : offset + 4 ≤ i → Side offset i

pub side : (offset i : ℕ) → Side offset i
side offset i = elim (cases_lt i offset) [
  | inl low ↦ before low
  | inr from ↦ elim (cases_lt i (offset + 4)) [ inl high ↦ within from high | inr past ↦ behind past ]
]

module _ {T : Type 0} (content : List ℕ) (addend : T → ℕ) (site : ℕ × T) (sites : List (ℕ × T)) (i : ℕ) where
  pub patched-inside : site.0 ≤ i → i < site.0 + 4 → patched content (site ∷ sites) addend i ≡ slice_index (big_bytes 4 (sum_at content addend site)) (i - site.0)
  patched-inside low high = rw (holds-inside site.0 i low high) refl

  pub patched-outside : holds site.0 i ≡ false → patched content (site ∷ sites) addend i ≡ patched content sites addend i
  patched-outside out = rw out refl

-- ---- the bytes as a list

pub length-patched_bytes : {T : Type 0} (count : ℕ) (content : List ℕ) (sites : List (ℕ × T)) (addend : T → ℕ) → length (patched_bytes count content sites addend) ≡ count
length-patched_bytes count content sites addend = length-map-range_with_len (patched content sites addend) 0 count

pub slice_index-patched_bytes : {T : Type 0} (count : ℕ) (content : List ℕ) (sites : List (ℕ × T)) (addend : T → ℕ) (i : ℕ) → i < count
    → slice_index (patched_bytes count content sites addend) i ≡ patched content sites addend i
slice_index-patched_bytes count content sites addend i h = get_or-map-range_with_len (patched content sites addend) 0 count i i 0 h (zero-add i)

-- the same bytes, if they are the same one by one
pub patched_bytes-same : {T U : Type 0} (count : ℕ) (content other : List ℕ) (sites : List (ℕ × T)) (addend : T → ℕ) (others : List (ℕ × U)) (amount : U → ℕ)
    → ((i : ℕ) → patched content sites addend i ≡ patched other others amount i)
    → patched_bytes count content sites addend ≡ patched_bytes count other others amount
patched_bytes-same count content other sites addend others amount h = ap (λ f. map f (range_with_len 0 count)) (fun_ext h)

-- without sites the bytes are the content
pub patched_bytes-no_sites : {T : Type 0} (content : List ℕ) (addend : T → ℕ) → patched_bytes {T = T} (length content) content [] addend ≡ content
patched_bytes-no_sites {T = T} content addend =
    ext_get_or 0 _ _ (length-patched_bytes {T = T} (length content) content [] addend)
    (λ i h. slice_index-patched_bytes {T = T} (length content) content [] addend i (omega (arith, length-patched_bytes {T = T} (length content) content [] addend)))

-- ---- the longword at an offset

-- of the bytes after an offset
big_from-drop : (n i offset : ℕ) (bytes : List ℕ) → big_from i n (drop offset bytes) ≡ big_from (offset + i) n bytes
big_from-drop zero i offset bytes = refl
big_from-drop (suc n) i offset bytes =
    let byte = get_or-drop offset bytes i 0 in
    let next : offset + suc i ≡ suc (offset + i) = omega arith in
    let rest = big_from-drop n (suc i) offset bytes in
    rw (byte, rest, next) refl

-- bytes that are the same from here on make the same numbers
pub big_from-same : (n from : ℕ) (some others : List ℕ) → ((i : ℕ) → from ≤ i → slice_index some i ≡ slice_index others i) → big_from from n some ≡ big_from from n others
big_from-same zero from some others h = refl
big_from-same (suc n) from some others h =
    let byte = h from (omega arith) in
    let rest = big_from-same n (suc from) some others (λ i low. h i (omega arith)) in
    rw (byte, rest) refl

-- bytes that are the same make the same sums
patched_in-alike : {T : Type 0} (some others : List ℕ) (addend : T → ℕ) (site : Option (ℕ × T)) (i : ℕ) → ((k : ℕ) → slice_index some k ≡ slice_index others k)
    → patched_in some addend site i ≡ patched_in others addend site i
patched_in-alike some others addend None i same = same i
patched_in-alike some others addend (Some site) i same = rw (big_from-same 4 site.0 some others (λ k low. same k)) refl

pub patched_bytes-alike : {T : Type 0} (count : ℕ) (some others : List ℕ) (sites : List (ℕ × T)) (addend : T → ℕ) → ((k : ℕ) → slice_index some k ≡ slice_index others k)
    → patched_bytes count some sites addend ≡ patched_bytes count others sites addend
patched_bytes-alike count some others sites addend same =
    patched_bytes-same count some others sites addend sites addend (λ i. patched_in-alike some others addend (site_over sites i) i same)

-- ---- one site

-- bytes in the place of others
module _ (bytes ys : List ℕ) (offset : ℕ) (fits : offset + length ys ≤ length bytes) where
  length-spliced : length (take offset bytes ++ (ys ++ drop (offset + length ys) bytes)) ≡ length bytes
  length-spliced =
      omega (arith, length-append (take offset bytes) (ys ++ drop (offset + length ys) bytes), length-append ys (drop (offset + length ys) bytes), length-take-le offset bytes (omega arith), length-drop (offset + length ys) bytes)

  spliced-before : (i : ℕ) → i < offset → slice_index (take offset bytes ++ (ys ++ drop (offset + length ys) bytes)) i ≡ slice_index bytes i
  spliced-before i low =
      get_or_append_left (take offset bytes) (ys ++ drop (offset + length ys) bytes) 0 i (omega (arith, length-take-le offset bytes (omega arith)))
      ∙ get_or-take offset bytes i 0 low

  spliced-from : (i : ℕ) → offset ≤ i → slice_index (take offset bytes ++ (ys ++ drop (offset + length ys) bytes)) i ≡ slice_index (ys ++ drop (offset + length ys) bytes) (i - offset)
  spliced-from i start = get_or-append_right (take offset bytes) (ys ++ drop (offset + length ys) bytes) offset i 0 (length-take-le offset bytes (omega arith)) start

  spliced-within : (i : ℕ) → offset ≤ i → i < offset + length ys → slice_index (take offset bytes ++ (ys ++ drop (offset + length ys) bytes)) i ≡ slice_index ys (i - offset)
  spliced-within i start high = spliced-from i start ∙ get_or_append_left ys (drop (offset + length ys) bytes) 0 (i - offset) (omega arith)

  spliced-behind : (i : ℕ) → offset + length ys ≤ i → slice_index (take offset bytes ++ (ys ++ drop (offset + length ys) bytes)) i ≡ slice_index bytes i
  spliced-behind i past =
      let place : offset + length ys + (i - offset - length ys) ≡ i = omega arith in
      spliced-from i (omega arith)
      ∙ get_or-append_right ys (drop (offset + length ys) bytes) (length ys) (i - offset) 0 refl (omega arith)
      ∙ get_or-drop (offset + length ys) bytes (i - offset - length ys) 0
      ∙ ap (λ k. slice_index bytes k) place

-- four bytes in the place of a longword
module _ (bytes : List ℕ) (offset addend : ℕ) (ys : List ℕ) (four : length ys ≡ 4) (is : ys ≡ big_bytes 4 (sum_at {T = ℕ} bytes (λ a. a) (offset, addend))) (fits : offset + 4 ≤ length bytes) where
  byte-spliced : (i : ℕ) → Side offset i → slice_index (take offset bytes ++ (ys ++ drop (offset + length ys) bytes)) i ≡ patched {T = ℕ} bytes ((offset, addend) ∷ []) (λ a. a) i
  byte-spliced i (before low) =
      spliced-before bytes ys offset (omega arith) i low
      ∙ sym (patched-outside {T = ℕ} bytes (λ a. a) (offset, addend) [] i (holds-below offset i low))
  byte-spliced i (within start high) =
      spliced-within bytes ys offset (omega arith) i start (omega arith)
      ∙ ap (λ zs. slice_index zs (i - offset)) is
      ∙ sym (patched-inside {T = ℕ} bytes (λ a. a) (offset, addend) [] i start high)
  byte-spliced i (behind past) =
      spliced-behind bytes ys offset (omega arith) i (omega arith)
      ∙ sym (patched-outside {T = ℕ} bytes (λ a. a) (offset, addend) [] i (holds-behind offset i past))

  put_mid-site : put_mid offset 4 bytes ys ≡ patched_bytes {T = ℕ} (length bytes) bytes ((offset, addend) ∷ []) (λ a. a)
  put_mid-site =
      let shape : put_mid offset 4 bytes ys ≡ take offset bytes ++ (ys ++ drop (offset + length ys) bytes) =
      ap (λ zs. take offset bytes ++ (ys ++ zs)) (drop-drop 4 offset bytes ∙ ap (λ k. drop (offset + k) bytes) (sym four)) in
      let counted : length (take offset bytes ++ (ys ++ drop (offset + length ys) bytes)) ≡ length bytes = length-spliced bytes ys offset (omega arith) in
      let count : length (patched_bytes {T = ℕ} (length bytes) bytes ((offset, addend) ∷ []) (λ a. a)) ≡ length bytes = length-patched_bytes {T = ℕ} (length bytes) bytes ((offset, addend) ∷ []) (λ a. a) in
      shape ∙ ext_get_or 0 (take offset bytes ++ (ys ++ drop (offset + length ys) bytes)) (patched_bytes {T = ℕ} (length bytes) bytes ((offset, addend) ∷ []) (λ a. a)) (counted ∙ sym count)
      (λ i h. let low : i < length bytes = omega arith in byte-spliced i (side offset i) ∙ sym (slice_index-patched_bytes {T = ℕ} (length bytes) bytes ((offset, addend) ∷ []) (λ a. a) i low))

-- what is read, added to and written back
pub put_mid-added : (bytes written : List ℕ) (offset addend read count : ℕ) → count ≡ 4 → offset + 4 ≤ length bytes → read ≡ big_from 0 4 (take count (drop offset bytes))
    → written ≡ big_bytes 4 ((read + addend) % 2 ^ 32) ++ drop 4 (take count (drop offset bytes))
    → put_mid offset count bytes written ≡ patched_bytes (length bytes) bytes ((offset, addend) ∷ []) (λ a. a)
put_mid-added bytes written offset addend read count four fits is_read is_written =
    let nothing : drop 4 (take count (drop offset bytes)) ≡ [] = drop_all 4 (take count (drop offset bytes)) (omega (arith, length-take count (drop offset bytes))) in
    let whole : written ≡ big_bytes 4 ((read + addend) % 2 ^ 32) = is_written ∙ ap (λ r. big_bytes 4 ((read + addend) % 2 ^ 32) ++ r) nothing ∙ append-nil _ in
    let longword : read ≡ big_from offset 4 bytes = is_read ∙ ap (λ c. big_from 0 4 (take c (drop offset bytes))) four ∙ big_from-take 0 4 4 (drop offset bytes) (omega arith) ∙ big_from-drop 4 0 offset bytes ∙ ap (λ o. big_from o 4 bytes) (add-zero offset) in
    let is : written ≡ big_bytes 4 (sum_at {T = ℕ} bytes (λ a. a) (offset, addend)) = whole ∙ ap (λ r. big_bytes 4 ((r + addend) % 2 ^ 32)) longword in
    ap (λ c. put_mid offset c bytes written) four ∙ put_mid-site bytes offset addend written (ap length is) is fits

-- four bytes are those of their longword, to which nothing is added
four-unchanged : (xs : List ℕ) → length xs ≡ 4 → AllByRecursion (λ b. b < 256) xs → xs ≡ big_bytes 4 ((big_from 0 4 xs + 0) % 2 ^ 32) ++ drop 4 xs
four-unchanged [] four h = absurd (omega (arith, four))
four-unchanged (a ∷ []) four h = absurd (omega (arith, four))
four-unchanged (a ∷ b ∷ []) four h = absurd (omega (arith, four))
four-unchanged (a ∷ b ∷ c ∷ []) four h = absurd (omega (arith, four))
four-unchanged (a ∷ b ∷ c ∷ d ∷ []) four h =
    let n : ℕ = big_number 4 (a ∷ b ∷ c ∷ d ∷ []) in
    let same : (n + 0) % 2 ^ 32 ≡ n = omega (arith, h.0, h.1.0, h.1.1.0, h.1.1.1.0) in
    sym (append-nil (big_bytes 4 ((n + 0) % 2 ^ 32)) ∙ ap (big_bytes 4) same ∙ big_bytes-of_four a b c d [] h.0 h.1.0 h.1.1.0 h.1.1.1.0)
four-unchanged (a ∷ b ∷ c ∷ d ∷ e ∷ xs) four h = absurd (omega (arith, four))

-- Where nothing is added, the bytes stay as they are.
pub patched_bytes-unchanged : (bytes : List ℕ) (offset : ℕ) → ((i : ℕ) → slice_index bytes i < 256) → offset + 4 ≤ length bytes
    → bytes ≡ patched_bytes (length bytes) bytes ((offset, 0) ∷ []) (λ a. a)
patched_bytes-unchanged bytes offset typed fits =
    let four : List ℕ = take 4 (drop offset bytes) in
    let count : length four ≡ 4 = length-take-le 4 (drop offset bytes) (omega (arith, length-drop offset bytes)) in
    let each : All (λ b. b < 256) four = All-from_get_or (λ b. b < 256) four 0 (λ i within.
    subst (λ b. b < 256) (sym (get_or-take 4 (drop offset bytes) i 0 (omega (arith, count)) ∙ get_or-drop offset bytes i 0)) (typed (offset + i))) in
    let whole : put_mid offset 4 bytes four ≡ bytes = ap (λ rest. take offset bytes ++ rest) (take-append-drop 4 (drop offset bytes)) ∙ take-append-drop offset bytes in
    sym whole ∙ put_mid-added bytes four offset 0 (big_from 0 4 four) 4 refl fits refl (four-unchanged four count (recursion_from_All (λ b. b < 256) four each))

-- ---- several sites, one after another

-- no site from here on includes an earlier byte
pub site_over-before : {T : Type 0} (from limit : ℕ) (sites : List (ℕ × T)) (i : ℕ) → StandFrom from limit sites → i < from → site_over sites i ≡ None
site_over-before from limit [] i apart low = refl
site_over-before from limit (site ∷ sites) i apart low =
    rw (holds-below site.0 i (omega arith)) (site_over-before (site.0 + 4) limit sites i apart.2 (omega arith))

-- Bytes that are the same from the first site on, and at i, are patched to the same byte at i.
pub patched-same : {T : Type 0} (from limit : ℕ) (some others : List ℕ) (sites : List (ℕ × T)) (addend : T → ℕ) (i : ℕ) → StandFrom from limit sites
    → ((k : ℕ) → from ≤ k → slice_index some k ≡ slice_index others k) → slice_index some i ≡ slice_index others i
    → patched some sites addend i ≡ patched others sites addend i
patched-same from limit some others [] addend i apart same here = here
patched-same from limit some others (site ∷ sites) addend i apart same here =
    go (side site.0 i) (patched-same (site.0 + 4) limit some others sites addend i apart.2 (λ k low. same k (omega (arith, apart.0))) here)
  where
    skip : holds site.0 i ≡ false → patched some sites addend i ≡ patched others sites addend i → patched some (site ∷ sites) addend i ≡ patched others (site ∷ sites) addend i
    skip out rest = patched-outside some addend site sites i out ∙ rest ∙ sym (patched-outside others addend site sites i out)

    go : Side site.0 i → patched some sites addend i ≡ patched others sites addend i → patched some (site ∷ sites) addend i ≡ patched others (site ∷ sites) addend i
    go (before low) rest = skip (holds-below site.0 i low) rest
    go (behind past) rest = skip (holds-behind site.0 i past) rest
    go (within start high) rest =
        let longword = big_from-same 4 site.0 some others (λ k low. same k (omega (arith, apart.0))) in
        patched-inside some addend site sites i start high
        ∙ ap (λ w. slice_index (big_bytes 4 ((w + addend site.1) % 2 ^ 32)) (i - site.0)) longword
        ∙ sym (patched-inside others addend site sites i start high)

-- ---- the first site, and then the others

module _ {T : Type 0} (bytes : List ℕ) (addend : T → ℕ) (site : ℕ × T) (sites : List (ℕ × T)) (fits : site.0 + 4 ≤ length bytes) where
  abbrev first : List (ℕ × ℕ)
  first = (site.0, addend site.1) ∷ []

  -- the bytes with the first site's sum
  abbrev after_first : List ℕ
  after_first = patched_bytes (length bytes) bytes first (λ a. a)

  -- after the end of the bytes, where no site lies, both are zeros
  after_first-behind : (i : ℕ) → length bytes ≤ i → slice_index after_first i ≡ patched {T = ℕ} bytes first (λ a. a) i
  after_first-behind i past =
      get_or_past after_first i 0 (omega (arith, length-patched_bytes (length bytes) bytes first (λ a. a)))
      ∙ sym (get_or_past bytes i 0 past)
      ∙ sym (patched-outside {T = ℕ} bytes (λ a. a) (site.0, addend site.1) [] i (holds-behind site.0 i (omega arith)))

  slice_index-after_first : (i : ℕ) → slice_index after_first i ≡ patched {T = ℕ} bytes first (λ a. a) i
  slice_index-after_first i = elim (cases_lt i (length bytes)) [
    | inl low ↦ slice_index-patched_bytes (length bytes) bytes first (λ a. a) i low
    | inr past ↦ after_first-behind i past
  ]

  after_first-outside : (i : ℕ) → holds site.0 i ≡ false → slice_index after_first i ≡ slice_index bytes i
  after_first-outside i out = slice_index-after_first i ∙ patched-outside {T = ℕ} bytes (λ a. a) (site.0, addend site.1) [] i out

  patched-outside_both : (limit : ℕ) → StandFrom (site.0 + 4) limit sites → (i : ℕ) → holds site.0 i ≡ false → patched after_first sites addend i ≡ patched bytes (site ∷ sites) addend i
  patched-outside_both limit apart i out =
      patched-same (site.0 + 4) limit after_first bytes sites addend i apart (λ k past. after_first-outside k (holds-behind site.0 k past)) (after_first-outside i out)
      ∙ sym (patched-outside bytes addend site sites i out)

  patched-after_first : (limit : ℕ) → StandFrom (site.0 + 4) limit sites → (i : ℕ) → Side site.0 i → patched after_first sites addend i ≡ patched bytes (site ∷ sites) addend i
  patched-after_first limit apart i (before low) = patched-outside_both limit apart i (holds-below site.0 i low)
  patched-after_first limit apart i (behind past) = patched-outside_both limit apart i (holds-behind site.0 i past)
  patched-after_first limit apart i (within start high) =
      ap (λ over. patched_in after_first addend over i) (site_over-before (site.0 + 4) limit sites i apart high)
      ∙ slice_index-after_first i
      ∙ patched-inside {T = ℕ} bytes (λ a. a) (site.0, addend site.1) [] i start high
      ∙ sym (patched-inside bytes addend site sites i start high)

  -- one site, and then those after it
  pub patched_bytes-first : (count limit : ℕ) → StandFrom (site.0 + 4) limit sites → patched_bytes count after_first sites addend ≡ patched_bytes count bytes (site ∷ sites) addend
  patched_bytes-first count limit apart = patched_bytes-same count after_first bytes sites addend (site ∷ sites) addend (λ i. patched-after_first limit apart i (side site.0 i))

-- ---- sites within more bytes, and after an earlier place

pub StandFrom-wider : {T : Type 0} (from lower limit higher : ℕ) (sites : List (ℕ × T)) → lower ≤ from → limit ≤ higher → StandFrom from limit sites → StandFrom lower higher sites
StandFrom-wider from lower limit higher [] low high apart = tt
StandFrom-wider from lower limit higher (site ∷ sites) low high apart =
    (omega (arith, apart.0), omega (arith, apart.1), StandFrom-wider (site.0 + 4) (site.0 + 4) limit higher sites (omega arith) high apart.2)

-- what a loop over the remaining sites keeps, when it adds the base of a site's target
module _ (bases bytes new : List ℕ) (left sites : List (ℕ × ℕ)) (site : ℕ × ℕ) (shown : left ≡ site ∷ sites) (apart : StandFrom 0 (length bytes) left)
    (added : new ≡ patched_bytes (length bytes) bytes ((site.0, slice_index bases site.1) ∷ []) (λ a. a)) where
  at_front : StandFrom 0 (length bytes) (site ∷ sites)
  at_front = subst (StandFrom 0 (length bytes)) shown apart

  counted : length new ≡ length bytes
  counted = ap length added ∙ length-patched_bytes (length bytes) bytes ((site.0, slice_index bases site.1) ∷ []) (λ a. a)

  pub left-apart : StandFrom 0 (length new) sites
  left-apart = StandFrom-wider (site.0 + 4) 0 (length bytes) (length new) sites (omega arith) (omega (arith, counted)) at_front.2

  pub left-patched : (count : ℕ) (all : List ℕ) → patched_bytes count bytes left (slice_index bases) ≡ all → patched_bytes count new sites (slice_index bases) ≡ all
  left-patched count all is =
      ap (λ b. patched_bytes count b sites (slice_index bases)) added
      ∙ patched_bytes-first bytes (slice_index bases) site sites at_front.1 count (length bytes) at_front.2
      ∙ ap (λ l. patched_bytes count bytes l (slice_index bases)) (sym shown)
      ∙ is

-- and at its end
pub all-patched : (bases bytes now : List ℕ) (left : List (ℕ × ℕ)) (all : List ℕ) → length now ≡ length bytes → left ≡ [] → patched_bytes (length bytes) now left (slice_index bases) ≡ all → now ≡ all
all-patched bases bytes now left all counted none is =
    sym (patched_bytes-no_sites {T = ℕ} now (slice_index bases))
    ∙ ap (λ count. patched_bytes {T = ℕ} count now [] (slice_index bases)) counted
    ∙ ap (λ l. patched_bytes (length bytes) now l (slice_index bases)) (sym none)
    ∙ is

pub All-behind : {T : Type 0} (P : T → Type 0) (left rest : List T) (x : T) → left ≡ x ∷ rest → All P left → All P rest
All-behind P left rest x shown all = λ k d low. subst (All P) shown all (suc k) d (omega arith)

-- ---- zeros after the content

slice_index-zeros : (count i : ℕ) → slice_index (replicate count 0) i ≡ 0
slice_index-zeros zero i = refl
slice_index-zeros (suc count) zero = refl
slice_index-zeros (suc count) (suc i) = slice_index-zeros count i

slice_index-filled : (content : List ℕ) (count i : ℕ) → slice_index (content ++ replicate count 0) i ≡ slice_index content i
slice_index-filled [] count i = slice_index-zeros count i
slice_index-filled (byte ∷ content) count zero = refl
slice_index-filled (byte ∷ content) count (suc i) = slice_index-filled content count i

-- zeros after the content change no byte
pub patched_bytes-filled : {T : Type 0} (limit count zeros : ℕ) (content : List ℕ) (sites : List (ℕ × T)) (addend : T → ℕ) → StandFrom 0 limit sites
    → patched_bytes count (content ++ replicate zeros 0) sites addend ≡ patched_bytes count content sites addend
patched_bytes-filled limit count zeros content sites addend apart =
    patched_bytes-same count (content ++ replicate zeros 0) content sites addend sites addend
    (λ i. patched-same 0 limit (content ++ replicate zeros 0) content sites addend i apart (λ k low. slice_index-filled content zeros k) (slice_index-filled content zeros i))
