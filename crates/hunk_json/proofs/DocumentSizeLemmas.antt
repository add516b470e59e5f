-- How many bytes documents have.
use Rattle.std.proofs.Common.{◌≡◌, ◌∙◌, ℕ, zero, suc, ◌+◌, ◌-◌, ◌*◌, ◌/◌, ◌%◌, ◌≤◌, ◌==◌, List, [], ◌∷◌, ◌++◌, Bool, true, false, cond, nat_lt, IsUtf8, get_or, length, sum_by, ap, refl, subst, sym, arith}
use Rattle.std.specs.Char.{digit_char, encode_utf8}
use Rattle.std.specs.Fmt.{decimal, digit_glyph, digits, digits_onto}
use Rattle.std.specs.Int.{bytes_high_first}
use Rattle.std.specs.List.{All}
use Rattle.std.specs.Str.{chars, chars_after, continuation_len, is_utf8, lead_bits}
use Rattle.std.proofs.Math.Nat.{mul-add}
use Rattle.std.proofs.lemmas.Bool.{cond_both}
use Rattle.std.proofs.lemmas.List.{length-append}
use Rattle.std.proofs.lemmas.List.Concat.{length-flat_map}
use Rattle.std.proofs.lemmas.List.Elements.{All-head, All-tail}
use Rattle.std.proofs.lemmas.List.Sums.{sum_by-cons, sum_by-le}
use Rattle.std.proofs.lemmas.Str.{len_utf8_bounds, length-encode}
use Rattle.hex.specs.Hex.{lower_digits}
use Rattle.hex.proofs.HexLemmas.{length-encode_with}
use Rattle.json.specs.Print.{escape, escape_byte, escape_letter, quoted}
use Rattle.serde_json.specs.Data.{Data, string}
use Rattle.serde_json.specs.Written.{comma_if, compact_text}
use Rattle.hunk_json.specs.Document.{document}
use Rattle.hunk_json.specs.Escapes.{character_text, is_escaped, unicode_escape, with_escapes}
use Rattle.hunk_json.specs.FileJson.{listed, name_json, natural}
use Rattle.hunk_json.specs.declared.form.JsonForm.{JsonForm}
use Rattle.hunk_json.proofs.DocumentLemmas.{comma-plain, elements, elements-utf8, items-elements}
use Rattle.hunk_json.proofs.EscapesLemmas.{plain-then, with_escapes-append, with_escapes-plain}
use Rattle.hunk_json.proofs.FileJsonLemmas.{natural-document, natural-utf8}

-- ---- texts with escapes

length-chars_after-le : (count c : ℕ) (bytes : List ℕ) → length (chars_after count c bytes) ≤ length bytes + 1
length-chars_after-le zero c [] = omega arith
length-chars_after-le zero c (b ∷ bytes) = omega (arith, length-chars_after-le (continuation_len b) (lead_bits b) bytes)
length-chars_after-le (suc count) c [] = omega arith
length-chars_after-le (suc count) c (b ∷ bytes) = omega (arith, length-chars_after-le count (c * 64 + (b - 128)) bytes)

length-chars-le : (bytes : List ℕ) → length (chars bytes) ≤ length bytes
unfolding chars
length-chars-le [] = omega arith
length-chars-le (b ∷ bytes) = omega (arith, length-chars_after-le (continuation_len b) (lead_bits b) bytes)

length-character_text-le : (form : JsonForm) (c : ℕ) → length (character_text form c) ≤ 6
length-character_text-le form c =
    cond_both (is_escaped form c) (unicode_escape c) (encode_utf8 c) (λ text. length text ≤ 6)
    (λ is. omega (arith, length-encode_with lower_digits (bytes_high_first 2 c)))
    (λ is. omega (arith, length-encode c, len_utf8_bounds c))

pub length-with_escapes-le : (form : JsonForm) (text : List ℕ) → length (with_escapes form text) ≤ 6 * length text
length-with_escapes-le form text =
    let each : All (λ c. length (character_text form c) ≤ 6) (chars text) = λ k d within. length-character_text-le form (get_or (chars text) k d) in
    omega (arith, length-flat_map (character_text form) (chars text), sum_by-le (λ c. length (character_text form c)) 6 (chars text) each, length-chars-le text)

-- ---- numbers

length-digits_onto-le : (k n : ℕ) (acc : List ℕ) → length (digits_onto k 10 false n acc) ≤ k + length acc
length-digits_onto-le zero n acc = omega arith
length-digits_onto-le (suc k) n acc =
    let more = digit_glyph false (n % 10) ∷ acc in
    cond_both (n / 10 == 0) more (digits_onto k 10 false (n / 10) more) (λ text. length text ≤ suc k + length acc) (λ is. omega arith) (λ is. omega (arith, length-digits_onto-le k (n / 10) more))

length-decimal-le : (n : ℕ) → length (decimal n) ≤ 64
unfolding digits
length-decimal-le n = length-digits_onto-le 64 n []

pub length-natural-le : (form : JsonForm) (n : ℕ) → length (document form (natural n)) ≤ 64
length-natural-le form n = subst (λ text. length text ≤ 64) (sym (natural-document form n)) (length-decimal-le n)

-- ---- arrays

-- a comma for each element, so that it has at most as many bytes as its weight says
length-elements-le : {T : Type 0} (form : JsonForm) (value : T → Data) (weight : T → ℕ) (most : ℕ) (P : T → Type 0) (later : Bool) (things : List T)
    → ((thing : T) → IsUtf8 (compact_text (value thing))) → ((thing : T) → P thing → length (document form (value thing)) + 1 ≤ most * weight thing) → All P things
    → length (with_escapes form (elements value later things)) ≤ most * sum_by weight things
length-elements-le form value weight most P later [] utf8 short all = omega (arith, length-with_escapes-le form [])
length-elements-le form value weight most P later (thing ∷ things) utf8 short all =
    let rest = elements value true things in
    let told = plain-then form (comma_if later) (compact_text (value thing) ++ rest) (comma-plain later) ∙ ap (λ end. comma_if later ++ end) (with_escapes-append form (compact_text (value thing)) rest (utf8 thing)) in
    let comma : length (comma_if later) ≤ 1 = length-comma later in
    omega (
      arith,
      ap length told,
      length-append (comma_if later) (document form (value thing) ++ with_escapes form rest),
      length-append (document form (value thing)) (with_escapes form rest),
      short thing (All-head P thing things all),
      length-elements-le form value weight most P true things utf8 short (All-tail P thing things all),
      ap (λ sum. most * sum) (sum_by-cons weight thing things),
      mul-add most (weight thing) (sum_by weight things),
    )
  where
    length-comma : (b : Bool) → length (comma_if b) ≤ 1
    length-comma true = omega arith
    length-comma false = omega arith

pub length-listed-le : {T : Type 0} (form : JsonForm) (value : T → Data) (weight : T → ℕ) (most : ℕ) (P : T → Type 0) (things : List T)
    → ((thing : T) → IsUtf8 (compact_text (value thing))) → ((thing : T) → P thing → length (document form (value thing)) + 1 ≤ most * weight thing) → All P things
    → length (document form (listed value things)) ≤ 2 + most * sum_by weight things
length-listed-le form value weight most P things utf8 short all =
    let inner = elements value false things in
    let told = plain-then form (91 ∷ []) (inner ++ 93 ∷ []) refl ∙ ap (λ end. 91 ∷ end) (with_escapes-append form inner (93 ∷ []) (elements-utf8 value false things utf8) ∙ ap (λ end. with_escapes form inner ++ end) (with_escapes-plain form (93 ∷ []) refl)) in
    let spelt = ap (λ text. with_escapes form (91 ∷ text)) (items-elements value false things) ∙ told in
    omega (arith, ap length spelt, length-append (with_escapes form inner) (93 ∷ []), length-elements-le form value weight most P false things utf8 short all)

sum_by-ones : {T : Type 0} (things : List T) → sum_by (λ thing. 1) things ≡ length things
sum_by-ones [] = refl
sum_by-ones (thing ∷ things) = omega (arith, sum_by-cons (λ x. 1) thing things, sum_by-ones things)

-- likewise where none has more than this
pub length-each-le : {T : Type 0} (form : JsonForm) (value : T → Data) (most : ℕ) (P : T → Type 0) (things : List T)
    → ((thing : T) → IsUtf8 (compact_text (value thing))) → ((thing : T) → P thing → length (document form (value thing)) + 1 ≤ most) → All P things
    → length (document form (listed value things)) ≤ 2 + most * length things
length-each-le form value most P things utf8 short all =
    subst (λ count. length (document form (listed value things)) ≤ 2 + most * count) (sum_by-ones things)
    (length-listed-le form value (λ thing. 1) most P things utf8 (λ thing is. omega (arith, short thing is)) all)

-- ---- names

length-escape_byte-le : (c : ℕ) → length (escape_byte c) ≤ 6
unfolding escape_byte
length-escape_byte-le c =
    let letter = 92 ∷ escape_letter c ∷ [] in
    let code = 92 ∷ 117 ∷ 48 ∷ 48 ∷ digit_char (c / 16) ∷ digit_char (c % 16) ∷ [] in
    let short : List ℕ → Type 0 = λ text. length text ≤ 6 in
    cond_both (nat_lt 0 (escape_letter c)) letter (cond (nat_lt c 32) code (c ∷ [])) short (λ is. omega arith)
    (λ is. cond_both (nat_lt c 32) code (c ∷ []) short (λ low. omega arith) (λ high. omega arith))

length-quoted-le : (text : List ℕ) → length (quoted text) ≤ 6 * length text + 2
length-quoted-le text =
    let each : All (λ c. length (escape_byte c) ≤ 6) text = λ k d within. length-escape_byte-le (get_or text k d) in
    omega (arith, length-append (escape text) (34 ∷ []), length-flat_map escape_byte text, sum_by-le (λ c. length (escape_byte c)) 6 text each)

pub length-string-le : (form : JsonForm) (text : List ℕ) → length (document form (string text)) ≤ 36 * length text + 12
length-string-le form text = omega (arith, length-with_escapes-le form (quoted text), length-quoted-le text)

length-bytes-le : (form : JsonForm) (bytes : List ℕ) → length (document form (listed natural bytes)) ≤ 2 + 65 * length bytes
length-bytes-le form bytes = length-each-le form natural 65 (λ b. Unit {0}) bytes natural-utf8 (λ b is. omega (arith, length-natural-le form b)) (λ k d within. tt)

pub length-name-le : (form : JsonForm) (name : List ℕ) → length (document form (name_json name)) ≤ 65 * length name + 14
length-name-le form name =
    cond_both (is_utf8 name) (string name) (listed natural name) (λ value. length (document form value) ≤ 65 * length name + 14)
    (λ is. omega (arith, length-string-le form name)) (λ is. omega (arith, length-bytes-le form name))
