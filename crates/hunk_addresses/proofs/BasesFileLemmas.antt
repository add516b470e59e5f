-- The parts of a file, as its bytes come.
use Rattle.std.proofs.Common.{◌≡◌, ◌≢◌, ◌∙◌, ◌<◌, ◌≤◌, ◌^◌, ◌+◌, ◌++◌, ℕ, Bool, true, false, cond, List, [], ◌∷◌, length, take, map, Option, Some, None, refl, sym, ap, subst, arith, append_assoc, append-nil, length-append, length-take-le, drop, get_or, slice_index_or}
use Rattle.std.specs.Prelude.{is_none, position, ⊤}
use Rattle.std.specs.Char.{digit_value, is_ascii_hexdigit}
use Rattle.std.specs.List.{All, filter, list_all, onto_first, slice_split}
use Rattle.std.specs.Str.Parse.{digits_value}
use Rattle.std.proofs.lemmas.Bool.{and_parts, and_from, ne_eqb}
use Rattle.std.proofs.lemmas.Grind.{common_steps}
use Rattle.std.proofs.Math.Seq.{get_or-append_seam, take-append_seam}
use Rattle.std.proofs.lemmas.List.{length-map, map-append, take-append-drop, take_more}
use Rattle.std.proofs.KnownBytes.{Consumes-trans}
use Rattle.std.specs.Io.KnownBytes.{Consumes}
use Rattle.std.proofs.lemmas.List.Folds.{list_all-append}
use Rattle.std.proofs.lemmas.List.Elements.{All-cons, All-nil}
use Rattle.std.proofs.lemmas.List.Splits.{slice_split-cons_no, slice_split_at, slice_split_none}
use Rattle.hunk_base.specs.Streams.{HasRead}
use Rattle.hunk_addresses.specs.Bases.{IsNumbersFault, is_number, number_of}
use Rattle.hunk_loadfile.specs.Rules.{most_hunks}
use Rattle.hunk_addresses.specs.BasesFile.{IsBasesFileFault, IsRejected, StandsFor, file_numbers, has_bytes, is_separator}
use Rattle.hunk_addresses.specs.PartDigits.{AreDigits, ended_number}
use Rattle.hunk_addresses.specs.declared.bases_file.BasesFileFault.{BasesFileFault}
use Rattle.hunk_addresses.specs.declared.bases_file.BasesFileFault.TheVariants.{Refused, TooMany, TooLong, Device}
use Rattle.hunk_addresses.specs.declared.part_digits.PartDigits.{PartDigits}
use Rattle.hunk_addresses.proofs.BasesLemmas.{is_number-from_parts, position-is_none}

-- ---- parts

-- no byte is a separator
abbrev Plain : List ℕ → Type 0
Plain [] = ⊤
Plain (x ∷ xs) = (is_separator x ≡ false) × Plain xs

All-plain : (part : List ℕ) → Plain part → All (λ x. is_separator x ≡ false) part
All-plain [] plain = All-nil (λ x. is_separator x ≡ false)
All-plain (x ∷ xs) plain = All-cons (λ y. is_separator y ≡ false) x xs plain.0 (All-plain xs plain.1)

-- a digit is no separator
no_separator : (c : ℕ) → is_ascii_hexdigit c ≡ true → is_separator c ≡ false
no_separator c h =
    let comma : c ≢ 44 = λ e. let no : is_ascii_hexdigit 44 ≡ true = subst (λ x. is_ascii_hexdigit x ≡ true) e h in cc in
    let space : c ≢ 32 = λ e. let no : is_ascii_hexdigit 32 ≡ true = subst (λ x. is_ascii_hexdigit x ≡ true) e h in cc in
    let tab : c ≢ 9 = λ e. let no : is_ascii_hexdigit 9 ≡ true = subst (λ x. is_ascii_hexdigit x ≡ true) e h in cc in
    let returned : c ≢ 13 = λ e. let no : is_ascii_hexdigit 13 ≡ true = subst (λ x. is_ascii_hexdigit x ≡ true) e h in cc in
    let fed : c ≢ 10 = λ e. let no : is_ascii_hexdigit 10 ≡ true = subst (λ x. is_ascii_hexdigit x ≡ true) e h in cc in
    rw (ne_eqb c 44 comma, ne_eqb c 32 space, ne_eqb c 9 tab, ne_eqb c 13 returned, ne_eqb c 10 fed) refl

plain_digits : (part : List ℕ) → list_all is_ascii_hexdigit part ≡ true → Plain part
plain_digits [] h = tt
plain_digits (c ∷ cs) h =
    let both = and_parts (is_ascii_hexdigit c) (list_all is_ascii_hexdigit cs) h in
    (no_separator c both.0, plain_digits cs both.1)

plain_push : (part : List ℕ) (byte : ℕ) → Plain part → is_separator byte ≡ false → Plain (part ++ byte ∷ [])
plain_push [] byte plain none = (none, tt)
plain_push (x ∷ xs) byte plain none = (plain.0, plain_push xs byte plain.1 none)

-- there is a first part
some_part : (bytes : List ℕ) → (first : List ℕ) × ((others : List (List ℕ)) × (slice_split is_separator bytes ≡ first ∷ others))
some_part [] = ([], ([], refl))
some_part (x ∷ xs) = go (is_separator x) (some_part xs)
  where
    go : (b : Bool) → (first : List ℕ) × ((others : List (List ℕ)) × (slice_split is_separator xs ≡ first ∷ others))
        → (first : List ℕ) × ((others : List (List ℕ)) × (cond b ([] ∷ slice_split is_separator xs) (onto_first x (slice_split is_separator xs)) ≡ first ∷ others))
    go true rest = ([], (slice_split is_separator xs, refl))
    go false rest = (x ∷ rest.0, (rest.1.0, ap (onto_first x) rest.1.1))

-- bytes that are no separators begin the first part
first_part : (front bytes : List ℕ) → Plain front
    → (first : List ℕ) × ((others : List (List ℕ)) × (slice_split is_separator (front ++ bytes) ≡ (front ++ first) ∷ others))
first_part [] bytes plain = some_part bytes
first_part (x ∷ xs) bytes plain =
    let rest = first_part xs bytes plain.1 in
    (rest.0, (rest.1.0, slice_split-cons_no is_separator x (xs ++ bytes) plain.0 ∙ ap (onto_first x) rest.1.1))

-- ---- numbers

-- a part that a separator ends
file_numbers-ended : (part : List ℕ) (byte : ℕ) (rest : List ℕ) → Plain part → is_separator byte ≡ true
    → file_numbers (part ++ byte ∷ rest) ≡ map number_of (filter has_bytes (part ∷ [])) ++ file_numbers rest
file_numbers-ended [] byte rest plain ends =
    ap (λ parts. map number_of (filter has_bytes parts)) (slice_split_at is_separator [] byte rest (All-plain [] plain) ends)
file_numbers-ended (x ∷ xs) byte rest plain ends =
    ap (λ parts. map number_of (filter has_bytes parts)) (slice_split_at is_separator (x ∷ xs) byte rest (All-plain (x ∷ xs) plain) ends)

-- the last part
file_numbers-last : (part : List ℕ) → Plain part → file_numbers part ≡ map number_of (filter has_bytes (part ∷ []))
file_numbers-last part plain = ap (λ parts. map number_of (filter has_bytes parts)) (slice_split_none is_separator part (All-plain part plain))

-- the number of a part with these digits
number-digits : (digits : PartDigits) (part : List ℕ) → digits.count ≤ 8 → AreDigits digits part
    → map number_of (filter has_bytes (part ∷ [])) ≡ map Some (ended_number digits)
number-digits digits [] few are = rw are.count_is refl
number-digits digits (x ∷ xs) few are =
    let short : length (x ∷ xs) ≤ 8 = omega (arith, are.count_is) in
    let yes : is_number (x ∷ xs) ≡ true = is_number-from_parts (x ∷ xs) (omega arith) short are.hexadecimal in
    let number : number_of (x ∷ xs) ≡ Some (digits_value 16 (x ∷ xs)) = ap (λ b. cond b (Some (digits_value 16 (x ∷ xs))) None) yes in
    let some : digits.count ≢ 0 = λ e. absurd (omega (arith, are.count_is, e)) in
    rw (ne_eqb digits.count 0 some) (ap (λ n. n ∷ []) (number ∙ ap Some (sym are.value_is)))

-- ---- what has been read

-- a separator
pub stands-separator : (bases : List ℕ) (digits none : PartDigits) (bytes : List ℕ) (byte : ℕ) → digits.count ≤ 8 → is_separator byte ≡ true → AreDigits none []
    → StandsFor bases digits bytes → StandsFor (bases ++ ended_number digits) none (bytes ++ byte ∷ [])
stands-separator bases digits none bytes byte few ends are stands = record {
  part = [];
  are = are;
  numbers = λ rest.
      let ended : file_numbers (stands.part ++ byte ∷ rest) ≡ map Some (ended_number digits) ++ file_numbers rest =
      file_numbers-ended stands.part byte rest (plain_digits stands.part stands.are.hexadecimal) ends
      ∙ ap (λ numbers. numbers ++ file_numbers rest) (number-digits digits stands.part few stands.are) in
      ap file_numbers (append_assoc bytes (byte ∷ []) rest) ∙ stands.numbers (byte ∷ rest) ∙ ap (λ numbers. map Some bases ++ numbers) ended
      ∙ sym (append_assoc (map Some bases) (map Some (ended_number digits)) (file_numbers rest))
      ∙ ap (λ numbers. numbers ++ file_numbers rest) (sym (map-append Some bases (ended_number digits)));
}

-- the end
pub numbers-ended : (bases : List ℕ) (digits : PartDigits) (bytes : List ℕ) → digits.count ≤ 8 → StandsFor bases digits bytes
    → file_numbers bytes ≡ map Some (bases ++ ended_number digits)
numbers-ended bases digits bytes few stands =
    ap file_numbers (sym (append-nil bytes)) ∙ stands.numbers [] ∙ ap (λ part. map Some bases ++ file_numbers part) (append-nil stands.part)
    ∙ ap (λ numbers. map Some bases ++ numbers) (file_numbers-last stands.part (plain_digits stands.part stands.are.hexadecimal) ∙ number-digits digits stands.part few stands.are)
    ∙ sym (map-append Some bases (ended_number digits))

-- ---- a part that is no address

has_bytes-push : (part : List ℕ) (byte : ℕ) (rest : List ℕ) → has_bytes ((part ++ byte ∷ []) ++ rest) ≡ true
has_bytes-push [] byte rest = refl
has_bytes-push (x ∷ xs) byte rest = refl

-- the first of some numbers is missing, after these
position-missing : (bases : List ℕ) (more : List (Option ℕ)) → position is_none (map Some bases ++ None ∷ more) ≡ Some (length bases)
position-missing bases more =
    let long : length (map Some bases) ≡ length bases = length-map bases Some in
    position-is_none bases (map Some bases ++ None ∷ more)
    (ap (λ n. take n (map Some bases ++ None ∷ more)) (sym long) ∙ take-append_seam (map Some bases) (None ∷ more))
    (rw length-append (omega (arith, long)))
    (ap (λ n. slice_index_or (map Some bases ++ None ∷ more) n None) (sym long) ∙ get_or-append_seam (map Some bases) None more None)

-- the part with this byte is no address, whatever follows
pub rejected : (bases : List ℕ) (digits : PartDigits) (bytes : List ℕ) (byte : ℕ) (rest : List ℕ) → is_separator byte ≡ false → StandsFor bases digits bytes
    → ((part : List ℕ) → AreDigits digits part → (more : List ℕ) → number_of (part ++ byte ∷ more) ≡ None)
    → position is_none (file_numbers ((bytes ++ byte ∷ []) ++ rest)) ≡ Some (length bases)
rejected bases digits bytes byte rest other stands bad =
    let part = stands.part in
    let first = first_part (part ++ byte ∷ []) rest (plain_push part byte (plain_digits part stands.are.hexadecimal) other) in
    let none : number_of ((part ++ byte ∷ []) ++ first.0) ≡ None = simp append_assoc (bad part stands.are first.0) in
    let others = map number_of (filter has_bytes first.1.0) in
    let numbers : file_numbers ((part ++ byte ∷ []) ++ rest) ≡ None ∷ others =
    ap (λ parts. map number_of (filter has_bytes parts)) first.1.1
    ∙ ap (λ b. map number_of (cond b (((part ++ byte ∷ []) ++ first.0) ∷ filter has_bytes first.1.0) (filter has_bytes first.1.0))) (has_bytes-push part byte first.0)
    ∙ ap (λ n. n ∷ others) none in
    let all : file_numbers ((bytes ++ byte ∷ []) ++ rest) ≡ map Some bases ++ None ∷ others =
    ap file_numbers (append_assoc bytes (byte ∷ []) rest) ∙ stands.numbers (byte ∷ rest)
    ∙ ap (λ x. map Some bases ++ file_numbers x) (sym (append_assoc part (byte ∷ []) rest)) ∙ ap (λ x. map Some bases ++ x) numbers in
    ap (position is_none) all ∙ position-missing bases others

-- ---- more bytes

-- no bytes that follow make a file of what is rejected
pub rejected-after : (bytes more : List ℕ) (fault : BasesFileFault) → IsRejected bytes fault → IsRejected (bytes ++ more) fault
rejected-after bytes more (Refused fault) is = λ rest.
    subst (λ all. IsNumbersFault (file_numbers all) fault) (sym (append_assoc bytes more rest)) (is (more ++ rest))
rejected-after bytes more TooMany is = λ rest.
    subst (λ all. most_hunks < length (file_numbers all)) (sym (append_assoc bytes more rest)) (is (more ++ rest))
rejected-after bytes more TooLong is = rw length-append (omega (arith, is))
rejected-after bytes more Device is = absurd is

-- so is a longer piece
pub rejected-longer : (bytes piece : List ℕ) (index : ℕ) (none : ℕ) (fault : BasesFileFault) → index < length piece
    → IsRejected ((bytes ++ take index piece) ++ get_or piece index none ∷ []) fault → IsRejected (bytes ++ piece) fault
rejected-longer bytes piece index none fault within rejected =
    let front = take (index + 1) piece in
    let back = drop (index + 1) piece in
    let read = (bytes ++ take index piece) ++ get_or piece index none ∷ [] in
    let whole : read ++ back ≡ bytes ++ piece =
    ap (λ l. l ++ back) (append_assoc bytes (take index piece) (get_or piece index none ∷ []) ∙ ap (λ l. bytes ++ l) (sym (take_more piece index none within)))
    ∙ append_assoc bytes front back ∙ ap (λ l. bytes ++ l) (take-append-drop (index + 1) piece) in
    subst (λ all. IsRejected all fault) whole (rejected-after read back fault rejected)

-- ---- too many addresses

-- a part that has begun has a number, or is no number
some_number : (part rest : List ℕ) → Plain part → 0 < length part → 0 < length (file_numbers (part ++ rest))
some_number [] rest plain some = absurd (omega (arith, some))
some_number (x ∷ xs) rest plain some =
    let first = first_part (x ∷ xs) rest plain in
    let more : 0 < length (map number_of (filter has_bytes (((x ∷ xs) ++ first.0) ∷ first.1.0))) = omega arith in
    subst (λ parts. 0 < length (map number_of (filter has_bytes parts))) (sym first.1.1) more

-- a part that has begun after as many addresses as a file may have
pub too_many : (bases : List ℕ) (digits : PartDigits) (bytes : List ℕ) → length bases ≡ most_hunks → 0 < digits.count → StandsFor bases digits bytes
    → IsRejected bytes TooMany
too_many bases digits bytes full some stands rest =
    let part = stands.part in
    let one : 0 < length part = omega (arith, some, stands.are.count_is) in
    let more = some_number part rest (plain_digits part stands.are.hexadecimal) one in
    let long : length (map Some bases) ≡ length bases = length-map bases Some in
    subst (λ numbers. most_hunks < length numbers) (sym (stands.numbers rest)) (rw length-append (omega (arith, long, more, full)))

-- ---- reads

-- what was read of a file is rejected
pub file_fault : (old new : Option (List ℕ)) (failed : Bool) (fault : BasesFileFault) → HasRead old new (λ bytes. IsRejected bytes fault)
    → IsBasesFileFault old new failed fault
file_fault old new failed (Refused fault) read = read
file_fault old new failed TooMany read = read
file_fault old new failed TooLong read = read
file_fault old new failed Device read = absurd read.holds

-- a read brings so many bytes
pub more_bytes : (bytes buffer : List ℕ) (count : ℕ) → count ≤ length buffer → length (bytes ++ take count buffer) ≡ length bytes + count
more_bytes bytes buffer count within = rw (length-append, length-take-le count buffer within) refl

-- the last read brings no byte
pub read-ended : (old between new : Option (List ℕ)) (bytes buffer : List ℕ) (count : ℕ) → count ≡ 0 → Consumes old between bytes → Consumes between new (take count buffer)
    → Consumes old new bytes
read-ended old between new bytes buffer count none before last =
    subst (Consumes old new) (ap (λ n. bytes ++ take n buffer) none ∙ append-nil bytes) (Consumes-trans old between new bytes (take count buffer) before last)

-- ---- one digit

pub list_all-push : (part : List ℕ) (byte : ℕ) → list_all is_ascii_hexdigit part ≡ true → is_ascii_hexdigit byte ≡ true → list_all is_ascii_hexdigit (part ++ byte ∷ []) ≡ true
list_all-push part byte all is = list_all-append is_ascii_hexdigit part (byte ∷ []) ∙ and_from _ _ all (and_from _ _ is refl)

-- what is a digit
pub is_digit : (byte : ℕ) → digit_value byte < 16 → is_ascii_hexdigit byte ≡ true
is_digit byte h = grind (arith, common_steps)

-- no digits are those of an empty part
pub no_digits : (digits : PartDigits) → digits.count ≡ 0 → AreDigits digits []
no_digits digits none =
    let least : 16 ^ digits.count ≡ 1 = ap (λ n. 16 ^ n) none in
    record { hexadecimal = refl; count_is = none; value_is = omega (arith, least, digits.below) }
