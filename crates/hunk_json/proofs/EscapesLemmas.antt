-- Texts with escapes: piece by piece, and character by character.
use Rattle.std.proofs.Common.{◌≡◌, ◌∙◌, ℕ, zero, suc, ◌<◌, ◌≤◌, ◌/◌, ◌%◌, ◌==◌, List, [], ◌∷◌, ◌++◌, Bool, true, false, ◌&&◌, ◌||◌, not, nat_lt, get_or, length, inl, inr, IsUtf8, ap, ap₂, refl, subst, sym, append-nil, append_assoc, arith}
use Rattle.std.specs.Char.{encode_utf8}
use Rattle.std.specs.Fmt.{decimal, digit_glyph, digits, digits_onto}
use Rattle.std.specs.List.{flat_map}
use Rattle.std.specs.Str.{all_scalars, bytes_eq, chars, encode_utf8_all}
use Rattle.std.proofs.lemmas.Bool.{agree_below, agree_below_at, and_from, and_parts, cases_lt, cond_both, cond-false, lt-ltb, ltb-true, ne_eqb}
use Rattle.std.proofs.lemmas.Grind.{flat_map-append}
use Rattle.std.proofs.lemmas.Str.{IsUtf8-append, IsUtf8-encode, chars-append, chars-encodes, chars-nil, chars_from_encodes, encode_ascii, encodes-append, inside_one, scalars-chars}
use Rattle.std.specs.Cmp.Lexicographic.{bytes_decides}
use lib.Utf8.{low_scalar, scalar}
use Rattle.hex.specs.Hex.{encode_with}
use Rattle.json.specs.Print.{escape, escape_byte, escape_letter, quoted}
use Rattle.json.proofs.Printed.Strings.{escape_byte_plain}
use Rattle.json.proofs.Printed.Utf8.{IsUtf8-are_ascii, are_ascii}
use Rattle.hunk_json.specs.Escapes.{character_text, is_escaped, unicode_escape, with_escapes}
use Rattle.hunk_json.specs.declared.form.JsonForm.{JsonForm}
use Rattle.hunk_json.specs.declared.form.JsonForm.TheVariants.{Plain, WithContent, InPage}

-- ---- piece by piece

pub with_escapes-append : (form : JsonForm) (xs ys : List ℕ) → IsUtf8 xs → with_escapes form (xs ++ ys) ≡ with_escapes form xs ++ with_escapes form ys
with_escapes-append form xs ys utf8 = ap (flat_map (character_text form)) (chars-append xs ys utf8) ∙ flat_map-append (character_text form) (chars xs) (chars ys)

-- one character
with_escapes-one : (form : JsonForm) (c : ℕ) → scalar c ≡ true → with_escapes form (encode_utf8 c) ≡ character_text form c
with_escapes-one form c is =
    let alone : encode_utf8_all (c ∷ []) ≡ encode_utf8 c = append-nil (encode_utf8 c) in
    ap (with_escapes form) (sym alone) ∙ ap (flat_map (character_text form)) (chars-encodes (c ∷ []) (and_from (scalar c) true is refl)) ∙ append-nil (character_text form c)

-- ---- bytes that stand for themselves in each form

-- a byte of ASCII, other than the last one and the less-than sign
abbrev pub is_plain : ℕ → Bool
is_plain c = nat_lt c 127 && not (c == 60)

abbrev pub are_plain : List ℕ → Bool
are_plain [] = true
are_plain (c ∷ cs) = is_plain c && are_plain cs

plain-below : (c : ℕ) → is_plain c ≡ true → c < 127
plain-below c plain = ltb-true c 127 (and_parts (nat_lt c 127) (not (c == 60)) plain).0

plain-checked : (form : JsonForm) → agree_below (λ c. is_plain c && is_escaped form c) (λ c. false) 127 ≡ true
plain-checked Plain = refl
plain-checked WithContent = refl
plain-checked InPage = refl

plain-itself : (form : JsonForm) (c : ℕ) → is_plain c ≡ true → character_text form c ≡ c ∷ []
plain-itself form c plain =
    let below = plain-below c plain in
    let none : is_escaped form c ≡ false = subst (λ b. (b && is_escaped form c) ≡ false) plain (agree_below_at (λ d. is_plain d && is_escaped form d) (λ d. false) 127 c (plain-checked form) below) in
    cond-false (is_escaped form c) (unicode_escape c) (encode_utf8 c) none ∙ encode_ascii c (omega arith)

are_plain-ascii : (cs : List ℕ) → are_plain cs ≡ true → are_ascii cs ≡ true
are_plain-ascii [] plain = refl
are_plain-ascii (c ∷ cs) plain =
    let parts = and_parts (is_plain c) (are_plain cs) plain in
    let below = plain-below c parts.0 in
    and_from (nat_lt c 128) (are_ascii cs) (lt-ltb c 128 (omega arith)) (are_plain-ascii cs parts.1)

pub IsUtf8-plain : (cs : List ℕ) → are_plain cs ≡ true → IsUtf8 cs
IsUtf8-plain cs plain = IsUtf8-are_ascii cs (are_plain-ascii cs plain)

pub with_escapes-plain : (form : JsonForm) (cs : List ℕ) → are_plain cs ≡ true → with_escapes form cs ≡ cs
with_escapes-plain form [] plain = ap (flat_map (character_text form)) chars-nil
with_escapes-plain form (c ∷ cs) plain =
    let parts = and_parts (is_plain c) (are_plain cs) plain in
    let below = plain-below c parts.0 in
    let first = and_from (is_plain c) true parts.0 refl in
    let here : with_escapes form (c ∷ []) ≡ c ∷ [] =
    ap (with_escapes form) (sym (encode_ascii c (omega arith))) ∙ with_escapes-one form c (low_scalar c (omega arith)) ∙ plain-itself form c parts.0 in
    with_escapes-append form (c ∷ []) cs (IsUtf8-plain (c ∷ []) first) ∙ ap₂ (λ (xs ys : List ℕ). xs ++ ys) here (with_escapes-plain form cs parts.1)

-- plain bytes, and what follows them
pub plain-then : (form : JsonForm) (xs ys : List ℕ) → are_plain xs ≡ true → with_escapes form (xs ++ ys) ≡ xs ++ with_escapes form ys
plain-then form xs ys plain = with_escapes-append form xs ys (IsUtf8-plain xs plain) ∙ ap (λ front. front ++ with_escapes form ys) (with_escapes-plain form xs plain)

-- ---- numbers

digits_onto-plain : (k n : ℕ) (acc : List ℕ) → are_plain acc ≡ true → are_plain (digits_onto k 10 false n acc) ≡ true
digits_onto-plain zero n acc plain = plain
digits_onto-plain (suc k) n acc plain =
    let digit = digit_glyph false (n % 10) in
    let glyph : is_plain digit ≡ true = agree_below_at (λ d. is_plain (digit_glyph false d)) (λ d. true) 10 (n % 10) refl (omega arith) in
    let more : are_plain (digit ∷ acc) ≡ true = and_from (is_plain digit) (are_plain acc) glyph plain in
    cond_both (n / 10 == 0) (digit ∷ acc) (digits_onto k 10 false (n / 10) (digit ∷ acc)) (λ xs. are_plain xs ≡ true) (λ e. more) (λ e. digits_onto-plain k (n / 10) (digit ∷ acc) more)

pub decimal-plain : (n : ℕ) → are_plain (decimal n) ≡ true
unfolding digits
decimal-plain n = digits_onto-plain 64 n [] refl

-- ---- characters in a string

low-checked : agree_below (λ c. c == 60 || c == 127 || are_plain (escape_byte c)) (λ c. true) 128 ≡ true
unfolding escape_byte
low-checked = refl

ascii-checked : agree_below (λ c. are_ascii (escape_byte c)) (λ c. true) 128 ≡ true
unfolding escape_byte
ascii-checked = refl

control-checked : agree_below (λ c. nat_lt 0 (escape_letter c) || bytes_eq (escape_byte c) (unicode_escape c)) (λ c. true) 32 ≡ true
unfolding escape_byte encode_with
control-checked = refl

-- an escaped byte of ASCII
low-escape : (c : ℕ) → c < 128 → escape (encode_utf8 c) ≡ escape_byte c
low-escape c small = ap escape (encode_ascii c small) ∙ append-nil (escape_byte c)

low-plain : (form : JsonForm) (c : ℕ) → c < 127 → (c ≡ 60 → ⊥) → with_escapes form (escape (encode_utf8 c)) ≡ escape_byte c
low-plain form c small other =
    let checked = agree_below_at (λ d. d == 60 || d == 127 || are_plain (escape_byte d)) (λ d. true) 128 c low-checked (omega arith) in
    let plain : are_plain (escape_byte c) ≡ true = subst (λ b. (b || are_plain (escape_byte c)) ≡ true) (ap₂ (λ a b. a || b) (ne_eqb c 60 other) (ne_eqb c 127 (λ same. omega arith))) checked in
    ap (with_escapes form) (low-escape c (omega arith)) ∙ with_escapes-plain form (escape_byte c) plain

escape-high : (xs : List ℕ) → ((k : ℕ) → k < length xs → 128 ≤ get_or xs k 0) → escape xs ≡ xs
escape-high [] high = refl
escape-high (x ∷ xs) high =
    let first : 128 ≤ x = high 0 (omega arith) in
    ap₂ (λ (a b : List ℕ). a ++ b) (escape_byte_plain x (λ same. omega arith) (λ same. omega arith) (omega arith)) (escape-high xs (λ k within. high (suc k) (omega arith)))

pub encode-high : (c : ℕ) → 128 ≤ c → (k : ℕ) → k < length (encode_utf8 c) → 128 ≤ get_or (encode_utf8 c) k 0
encode-high c big k within = elim (cases_lt (get_or (encode_utf8 c) k 0) 128) [
  | inl low ↦ absurd (omega (arith, inside_one c [] (encode_utf8 c) k (sym (append-nil (encode_utf8 c))) within low))
  | inr high ↦ high
]

-- a character that JSON does not escape
kept : (c : ℕ) → 32 ≤ c → (c ≡ 34 → ⊥) → (c ≡ 92 → ⊥) → escape (encode_utf8 c) ≡ encode_utf8 c
kept c printable no_quote no_backslash = elim (cases_lt c 128) [
  | inl small ↦ low-escape c small ∙ escape_byte_plain c no_quote no_backslash printable ∙ sym (encode_ascii c small)
  | inr big ↦ escape-high (encode_utf8 c) (encode-high c big)
]

no-letter-past : (c : ℕ) → 93 ≤ c → escape_letter c ≡ 0
no-letter-past c past =
    rw (
      ne_eqb c 34 (λ same. omega arith),
      ne_eqb c 92 (λ same. omega arith),
      ne_eqb c 8 (λ same. omega arith),
      ne_eqb c 12 (λ same. omega arith),
      ne_eqb c 10 (λ same. omega arith),
      ne_eqb c 13 (λ same. omega arith),
      ne_eqb c 9 (λ same. omega arith),
    )
    refl

-- one with a short escape
pub short-told : (form : JsonForm) (c : ℕ) → 0 < escape_letter c → with_escapes form (escape (encode_utf8 c)) ≡ escape_byte c
short-told form c some = elim (cases_lt c 93) [
  | inl small ↦ low-plain form c (omega arith) (λ same. let none : 0 < 0 = subst (λ d. 0 < escape_letter d) same some in omega arith)
  | inr past ↦ absurd (omega (arith, no-letter-past c past))
]

-- a control character without one
pub control-told : (form : JsonForm) (c : ℕ) → c < 32 → escape_letter c ≡ 0 → with_escapes form (escape (encode_utf8 c)) ≡ unicode_escape c
control-told form c small none =
    let checked = agree_below_at (λ d. nat_lt 0 (escape_letter d) || bytes_eq (escape_byte d) (unicode_escape d)) (λ d. true) 32 c control-checked small in
    let same : bytes_eq (escape_byte c) (unicode_escape c) ≡ true = subst (λ letter. (nat_lt 0 letter || bytes_eq (escape_byte c) (unicode_escape c)) ≡ true) none checked in
    low-plain form c (omega arith) (λ is. omega arith) ∙ (bytes_decides (escape_byte c) (unicode_escape c)).0 same

-- any other
pub other-told : (form : JsonForm) (c : ℕ) → scalar c ≡ true → 32 ≤ c → escape_letter c ≡ 0 → with_escapes form (escape (encode_utf8 c)) ≡ character_text form c
other-told form c is printable none =
    let no_quote : c ≡ 34 → ⊥ = λ same. let letter : ◌≡◌ {A = ℕ} 34 0 = subst (λ d. escape_letter d ≡ 0) same none in omega arith in
    let no_backslash : c ≡ 92 → ⊥ = λ same. let letter : ◌≡◌ {A = ℕ} 92 0 = subst (λ d. escape_letter d ≡ 0) same none in omega arith in
    ap (with_escapes form) (kept c printable no_quote no_backslash) ∙ with_escapes-one form c is

-- ---- strings, character by character

escape-utf8 : (c : ℕ) → scalar c ≡ true → IsUtf8 (escape (encode_utf8 c))
escape-utf8 c is = elim (cases_lt c 128) [
  | inl small ↦ subst IsUtf8 (sym (low-escape c small)) (IsUtf8-are_ascii (escape_byte c) (agree_below_at (λ d. are_ascii (escape_byte d)) (λ d. true) 128 c ascii-checked small))
  | inr big ↦ subst IsUtf8 (sym (escape-high (encode_utf8 c) (encode-high c big))) (IsUtf8-encode c is)
]

-- a character as it stands in a string
abbrev pub in_string : JsonForm → ℕ → List ℕ
in_string form c = with_escapes form (escape (encode_utf8 c))

pub in_string-all : (form : JsonForm) (cs : List ℕ) → all_scalars cs ≡ true → flat_map (in_string form) cs ≡ with_escapes form (escape (encode_utf8_all cs))
in_string-all form [] is = sym (ap (flat_map (character_text form)) chars-nil)
in_string-all form (c ∷ cs) is =
    let parts = and_parts (scalar c) (all_scalars cs) is in
    ap (λ rest. in_string form c ++ rest) (in_string-all form cs parts.1)
    ∙ sym (with_escapes-append form (escape (encode_utf8 c)) (escape (encode_utf8_all cs)) (escape-utf8 c parts.0))
    ∙ ap (with_escapes form) (sym (flat_map-append escape_byte (encode_utf8 c) (encode_utf8_all cs)))

-- one more character of a text
pub spelt-more : (done : List ℕ) (c : ℕ) (left rest all : List ℕ) → encode_utf8_all done ++ left ≡ all → left ≡ encode_utf8 c ++ rest → encode_utf8_all (done ++ c ∷ []) ++ rest ≡ all
spelt-more done c left rest all so_far next =
    ap (λ front. front ++ rest) (encodes-append done (c ∷ []) ∙ ap (λ last. encode_utf8_all done ++ last) (append-nil (encode_utf8 c)))
    ∙ append_assoc (encode_utf8_all done) (encode_utf8 c) rest
    ∙ ap (λ end. encode_utf8_all done ++ end) (sym next)
    ∙ so_far

-- all characters
pub spelt-all : (form : JsonForm) (done left all : List ℕ) → IsUtf8 all → encode_utf8_all done ++ left ≡ all → left ≡ [] → flat_map (in_string form) done ≡ with_escapes form (escape all)
spelt-all form done left all utf8 so_far none =
    let spelt : encode_utf8_all done ≡ all = sym (append-nil (encode_utf8_all done)) ∙ ap (λ end. encode_utf8_all done ++ end) (sym none) ∙ so_far in
    let scalars : all_scalars done ≡ true = ap all_scalars (chars_from_encodes done all utf8 spelt) ∙ scalars-chars all utf8 in
    in_string-all form done scalars ∙ ap (λ bytes. with_escapes form (escape bytes)) spelt

-- ---- whole strings

escaped-utf8 : (cs : List ℕ) → all_scalars cs ≡ true → IsUtf8 (escape (encode_utf8_all cs))
escaped-utf8 [] is = IsUtf8-plain [] refl
escaped-utf8 (c ∷ cs) is =
    let parts = and_parts (scalar c) (all_scalars cs) is in
    subst IsUtf8 (sym (flat_map-append escape_byte (encode_utf8 c) (encode_utf8_all cs)))
    (IsUtf8-append (escape (encode_utf8 c)) (escape (encode_utf8_all cs)) (escape-utf8 c parts.0) (escaped-utf8 cs parts.1))

-- the quotes, and the characters between them
pub quoted-told : (form : JsonForm) (string : List ℕ) → IsUtf8 string → with_escapes form (quoted string) ≡ (34 ∷ []) ++ with_escapes form (escape string) ++ (34 ∷ [])
quoted-told form string utf8 =
    let inner : IsUtf8 (escape string) = subst (λ bytes. IsUtf8 (escape bytes)) utf8.1.1 (escaped-utf8 utf8.0 utf8.1.0) in
    plain-then form (34 ∷ []) (escape string ++ 34 ∷ []) refl
    ∙ ap (λ end. 34 ∷ end) (with_escapes-append form (escape string) (34 ∷ []) inner ∙ ap (λ end. with_escapes form (escape string) ++ end) (with_escapes-plain form (34 ∷ []) refl))
