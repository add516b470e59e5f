-- The numbers that the parts of a list stand for.
use Rattle.std.proofs.Common.{◌≡◌, ℕ, ◌^◌, ◌<◌, ◌≤◌, ◌≢◌, true, cond, List, [], ◌∷◌, length, take, map, slice_index, slice_index_or, Option, Some, None, Result, refl, sym, ap, subst, ◌∙◌, arith}
use Rattle.std.proofs.Math.Nat.{pow-le-pow_right}
use Rattle.std.specs.Prelude.{is_none, position}
use Rattle.std.specs.Result.{result_ok}
use Rattle.std.specs.Char.{digit_value, is_ascii_hexdigit}
use Rattle.std.specs.List.{list_all, position_or_len}
use Rattle.std.specs.Str.Parse.{AllDigits, ParsesUnsigned, digits_value}
use Rattle.std.proofs.lemmas.Bool.{and_parts, and_from, le-leb, lt-ltb}
use Rattle.std.proofs.lemmas.Grind.{common_steps}
use Rattle.std.proofs.lemmas.Int.Digits.{digits_value-lt}
use Rattle.std.proofs.lemmas.List.{get_or-map, length-map, take-map}
use Rattle.std.proofs.lemmas.Result.{Ok-from_Ok_iff}
use Rattle.std.proofs.lemmas.Simd.{map-map}
use Rattle.std.proofs.lemmas.Str.Parse.{without_leading_plus_none}
use Rattle.hunk_addresses.specs.Bases.{is_number, number_of}

-- ---- one number

digit_below : (c : ℕ) → is_ascii_hexdigit c ≡ true → digit_value c < 16
digit_below c h = grind (arith, common_steps)

AllDigits-from_list_all : (part : List ℕ) → list_all is_ascii_hexdigit part ≡ true → AllDigits 16 part
AllDigits-from_list_all [] h = tt
AllDigits-from_list_all (c ∷ cs) h =
    let both = and_parts (is_ascii_hexdigit c) (list_all is_ascii_hexdigit cs) h in
    (digit_below c both.0, AllDigits-from_list_all cs both.1)

no_plus : (part : List ℕ) → list_all is_ascii_hexdigit part ≡ true → slice_index part 0 ≢ 43
no_plus [] h e = grind arith
no_plus (c ∷ cs) h e =
    let first : is_ascii_hexdigit 43 ≡ true = subst (λ x. is_ascii_hexdigit x ≡ true) e (and_parts (is_ascii_hexdigit c) (list_all is_ascii_hexdigit cs) h).0 in cc

digits_value_small : (part : List ℕ) → AllDigits 16 part → length part ≤ 8 → digits_value 16 part < 2 ^ 32
digits_value_small part digits short =
    let below = digits_value-lt 16 part digits in
    let most : 16 ^ length part ≤ 16 ^ 8 = pow-le-pow_right (omega arith) short in
    omega arith

pub is_number-from_parts : (part : List ℕ) → 1 ≤ length part → length part ≤ 8 → list_all is_ascii_hexdigit part ≡ true → is_number part ≡ true
is_number-from_parts part some short digits = and_from _ _ (and_from _ _ (le-leb 1 (length part) some) (le-leb (length part) 8 short)) digits

-- what std parses from such a part
pub result_ok-number_of : {E : Type 0} (part : List ℕ) (r : Result ℕ E) → 1 ≤ length part → length part ≤ 8 → list_all is_ascii_hexdigit part ≡ true → ParsesUnsigned 32 16 part r → result_ok r ≡ number_of part
result_ok-number_of part r some short digits parsed =
    let plain = without_leading_plus_none part (no_plus part digits) in
    let all = AllDigits-from_list_all part digits in
    let read = Ok-from_Ok_iff r _ _ (rw plain at parsed) ((some, all), digits_value_small part all short) in
    let yes = is_number-from_parts part some short digits in
    ap result_ok read ∙ sym (ap (λ b. cond b (Some (digits_value 16 part)) None) yes)

-- ---- all numbers

none_before : (found : List ℕ) (all : List (Option ℕ)) → take (length found) all ≡ map Some found → length found < length all → slice_index_or all (length found) None ≡ None → position_or_len is_none all ≡ length found
none_before [] [] fronts within none = refl
none_before [] (None ∷ all) fronts within none = refl
none_before [] (Some n ∷ all) fronts within none = cc
none_before (n ∷ found) [] fronts within none = absurd (omega arith)
none_before (n ∷ found) (None ∷ all) fronts within none = cc
none_before (n ∷ found) (Some m ∷ all) fronts within none =
    let rest : take (length found) all ≡ map Some found = cc in
    let e = none_before found all rest (omega arith) none in omega (arith, e)

-- the first place without a number, if each place before it has one
pub position-is_none : (found : List ℕ) (all : List (Option ℕ)) → take (length found) all ≡ map Some found → length found < length all → slice_index_or all (length found) None ≡ None → position is_none all ≡ Some (length found)
position-is_none found all fronts within none =
    let e = none_before found all fronts within none in
    rw e (ap (λ b. cond b (Some (length found)) None) (lt-ltb (length found) (length all) within))

-- ---- the parts that a loop has read, each mapped by v

pub map-number_of : {X : Type 0} (v : X → List ℕ) (read : List X) (all : List (List ℕ)) (found : List ℕ) → map (λ x. number_of (v x)) read ≡ map Some found → map v read ≡ all → map number_of all ≡ map Some found
map-number_of v read all found numbers whole = ap (map number_of) (sym whole) ∙ map-map number_of v read ∙ numbers

pub position-number_of : {X : Type 0} (v : X → List ℕ) (read : List X) (all : List (List ℕ)) (found part : List ℕ) → map (λ x. number_of (v x)) read ≡ map Some found → map v read ≡ take (length read) all → length read < length all → part ≡ slice_index_or all (length read) part → None ≡ number_of part → position is_none (map number_of all) ≡ Some (length found)
position-number_of v read all found part numbers so_far within next none =
    let as_long : length read ≡ length found = sym (length-map read (λ x. number_of (v x))) ∙ ap length numbers ∙ length-map found Some in
    let fronts : take (length found) (map number_of all) ≡ map Some found =
    ap (λ n. take n (map number_of all)) (sym as_long) ∙ take-map number_of (length read) all ∙ map-number_of v read (take (length read) all) found numbers so_far in
    let here : slice_index_or (map number_of all) (length found) None ≡ None =
    ap (λ n. slice_index_or (map number_of all) n None) (sym as_long) ∙ get_or-map number_of all (length read) part None within ∙ ap number_of (sym next) ∙ sym none in
    position-is_none found (map number_of all) fronts (omega (arith, length-map all number_of)) here
