-- What is known of a content that comes in runs, after one more run and at its end.
use Rattle.std.proofs.Common.{◌≡◌, ◌≤◌, ◌<◌, ◌+◌, ◌-◌, ◌==◌, ◌∙◌, true, false, not, ℕ, min, max, Option, Some, None, List, ◌++◌, length, length-append, length-take, take, drop, refl, sym, ap, subst, arith}
use Rattle.std.specs.Option.{is_some, option_map}
use Rattle.std.proofs.lemmas.List.{get_or-take, get_or-drop, get_or_append_left, get_or-append-add, get_or_past}
use Rattle.hunk_loadfile.specs.ContentComparer.{unlike_in}
use Rattle.hunk_loadfile.specs.Difference.{lowest, unlike_byte}
use Rattle.hunk_loadfile.specs.Patching.{byte_or_zero}
use Rattle.hunk_loadfile.proofs.DifferenceLawLemmas.{option_map-none}
use Rattle.hunk_loadfile.proofs.FirstDifferenceLemmas.{first_byte-in_first, nonzero, option_map-pair, other_byte}
use Rattle.hunk_loadfile.proofs.LowestLemmas.{IsLowest, IsLowest-lowest, lowest-behind, lowest-in_first, lowest-within}

-- a place with a byte
abbrev pub with_byte : (place byte : ℕ → ℕ) → ℕ → ℕ × ℕ
with_byte place byte offset = (place offset, byte offset)

-- ---- one more run

module _ (first content bytes : List ℕ) where
  abbrev whole : List ℕ
  whole = content ++ bytes

  byte-before : (i : ℕ) → i < length content → other_byte first content i ≡ other_byte first whole i
  byte-before i low = ap (λ byte. not (byte_or_zero first i == byte)) (sym (get_or_append_left content bytes 0 i low))

  byte-behind : (i : ℕ) → byte_or_zero whole (length content + i) ≡ byte_or_zero bytes i
  byte-behind i = get_or-append-add content bytes i 0

  unlike-behind : (i : ℕ) → other_byte (drop (length content) first) bytes i ≡ other_byte first whole (length content + i)
  unlike-behind i =
      ap (λ byte. not (byte == byte_or_zero bytes i)) (get_or-drop (length content) first i 0)
      ∙ ap (λ byte. not (byte_or_zero first (length content + i) == byte)) (sym (byte-behind i))

  -- A byte that differed before is still the first one.
  unlike_byte-kept : (u : ℕ × ℕ) → unlike_byte first content (length content) ≡ Some u → Some u ≡ unlike_byte first whole (length whole)
  unlike_byte-kept u is =
      let found = option_map-pair (byte_or_zero content) (lowest (other_byte first content) 0 (length content)) u is in
      let here : lowest (other_byte first whole) 0 (length content) ≡ Some u.0 = sym (lowest-within (other_byte first content) (other_byte first whole) 0 (length content) (λ i low high. byte-before i (omega arith))) ∙ found.0 in
      let low : IsLowest (other_byte first whole) 0 (0 + length content) (Some u.0) = subst (IsLowest (other_byte first whole) 0 (0 + length content)) here (IsLowest-lowest (other_byte first whole) (length content) 0) in
      let in_whole : Some u.0 ≡ lowest (other_byte first whole) 0 (length whole) = lowest-in_first (other_byte first whole) (length content) (length whole) (Some u.0) (omega (arith, length-append content bytes)) (sym here) refl in
      let byte : u.1 ≡ byte_or_zero whole u.0 = found.1 ∙ sym (get_or_append_left content bytes 0 u.0 (omega (arith, low.1))) in
      ap (λ (b : ℕ). Some (u.0, b)) byte ∙ ap (option_map (with_byte (λ i. i) (byte_or_zero whole))) in_whole

  pub unlike_byte-some : (unlike : Option (ℕ × ℕ)) → unlike ≡ unlike_byte first content (length content) → is_some unlike ≡ true → unlike ≡ unlike_byte first whole (length whole)
  unlike_byte-some None is there = absurd (cc)
  unlike_byte-some (Some u) is there = unlike_byte-kept u (sym is)

  moved : (place : Option ℕ) → option_map (with_byte (λ i. length content + i) (byte_or_zero bytes)) place ≡ option_map (with_byte (λ i. i) (byte_or_zero whole)) (option_map (λ i. length content + i) place)
  moved None = refl
  moved (Some k) = ap (λ (b : ℕ). Some (length content + k, b)) (sym (byte-behind k))

  -- If none did, it is the first one of the run.
  unlike_byte-more : unlike_byte first content (length content) ≡ None → unlike_in first (length content) bytes ≡ unlike_byte first whole (length whole)
  unlike_byte-more none =
      let place = lowest (other_byte (drop (length content) first) bytes) 0 (length bytes) in
      let before : lowest (other_byte first whole) 0 (length content) ≡ None =
      sym (lowest-within (other_byte first content) (other_byte first whole) 0 (length content) (λ i low high. byte-before i (omega arith))) ∙ option_map-none _ (lowest (other_byte first content) 0 (length content)) none in
      let there : place ≡ lowest (λ i. other_byte first whole (length content + i)) 0 (length bytes) = lowest-within _ (λ i. other_byte first whole (length content + i)) 0 (length bytes) (λ i low high. unlike-behind i) in
      let total : length content + length bytes ≡ length whole = sym (length-append content bytes) in
      moved place
      ∙ ap (option_map (with_byte (λ i. i) (byte_or_zero whole))) (lowest-behind (other_byte first whole) (length content) (length bytes) place before there ∙ ap (lowest (other_byte first whole) 0) total)

  pub unlike_byte-none : (unlike : Option (ℕ × ℕ)) → unlike ≡ unlike_byte first content (length content) → is_some unlike ≡ false → unlike_in first (length content) bytes ≡ unlike_byte first whole (length whole)
  unlike_byte-none None is none = unlike_byte-more (sym is)
  unlike_byte-none (Some u) is none = absurd (cc)

-- ---- the end

module _ (first content : List ℕ) where
  unlike_byte-longer : (u : ℕ × ℕ) → unlike_byte first content (length content) ≡ Some u → Some u ≡ unlike_byte first content (max (length first) (length content))
  unlike_byte-longer u is =
      let found = option_map-pair (byte_or_zero content) (lowest (other_byte first content) 0 (length content)) u is in
      ap (λ (b : ℕ). Some (u.0, b)) found.1
      ∙ ap (option_map (with_byte (λ i. i) (byte_or_zero content))) (lowest-in_first (other_byte first content) (length content) (max (length first) (length content)) (Some u.0) (omega arith) (sym found.0) refl)

  pub unlike_byte-found : (unlike : Option (ℕ × ℕ)) → unlike ≡ unlike_byte first content (length content) → is_some unlike ≡ true → unlike ≡ unlike_byte first content (max (length first) (length content))
  unlike_byte-found None is there = absurd (cc)
  unlike_byte-found (Some u) is there = unlike_byte-longer u (sym is)

  pub unlike_byte-whole : length first ≤ length content → unlike_byte first content (length content) ≡ unlike_byte first content (max (length first) (length content))
  unlike_byte-whole longer = let most : length content ≡ max (length first) (length content) = omega arith in ap (unlike_byte first content) most

  -- the zeros after it
  zero-at : (place : Option ℕ) → IsLowest (nonzero first) (length content) (length content + (length first - length content)) place → option_map (with_byte (λ i. i) (λ i. 0)) place ≡ option_map (with_byte (λ i. i) (byte_or_zero content)) place
  zero-at None is = refl
  zero-at (Some k) is = ap (λ (b : ℕ). Some (k, b)) (sym (get_or_past content k 0 is.0))

  unlike_byte-zeros : (place : Option ℕ) → length content < length first → unlike_byte first content (length content) ≡ None → place ≡ lowest (nonzero first) (length content) (length first - length content)
      → option_map (with_byte (λ i. i) (λ i. 0)) place ≡ unlike_byte first content (max (length first) (length content))
  unlike_byte-zeros place shorter none is =
      let before = lowest (other_byte first content) 0 (length content) in
      let least : length content ≡ min (length first) (length content) = omega arith in
      let nowhere : is_some before ≡ false = ap is_some (option_map-none _ before none) in
      zero-at place (subst (IsLowest (nonzero first) (length content) (length content + (length first - length content))) (sym is) (IsLowest-lowest (nonzero first) (length first - length content) (length content)))
      ∙ ap (option_map (with_byte (λ i. i) (byte_or_zero content)))
      (first_byte-in_first first content before place (omega arith) (ap (lowest (other_byte first content) 0) least) nowhere is)

  pub unlike_byte-rest : (unlike : Option (ℕ × ℕ)) (start : ℕ) (place : Option ℕ) → start ≡ length content → start < length first → unlike ≡ unlike_byte first content (length content) → is_some unlike ≡ false
      → place ≡ lowest (nonzero first) start (length first - start) → option_map (with_byte (λ i. i) (λ i. 0)) place ≡ unlike_byte first content (max (length first) (length content))
  unlike_byte-rest (Some u) start place at shorter is none rest = absurd (cc)
  unlike_byte-rest None start place at shorter is none rest =
      unlike_byte-zeros place (omega arith) (sym is) (rest ∙ ap (λ (from : ℕ). lowest (nonzero first) from (length first - from)) at)

-- ---- a run beside the first content

module _ (first bytes : List ℕ) (start : ℕ) where
  abbrev front : List ℕ
  front = take (length bytes) (drop start first)

  -- Only as many bytes are looked at as the run has.
  pub place_in-front : (place : Option ℕ) → place ≡ lowest (other_byte front bytes) 0 (max (length front) (length bytes)) → place ≡ lowest (other_byte (drop start first) bytes) 0 (length bytes)
  place_in-front place is =
      let fits : length front ≤ length bytes = omega (arith, length-take {A = ℕ}) in
      let most : max (length front) (length bytes) ≡ length bytes = omega arith in
      is ∙ ap (lowest (other_byte front bytes) 0) most
      ∙ lowest-within (other_byte front bytes) (other_byte (drop start first) bytes) 0 (length bytes)
      (λ i low high. ap (λ byte. not (byte == byte_or_zero bytes i)) (get_or-take (length bytes) (drop start first) i 0 (omega arith)))
