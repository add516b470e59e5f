-- The text of bytes in base64.
use Rattle.std.proofs.Common.{◌≡◌, ◌∙◌, ℕ, zero, suc, ◌+◌, ◌*◌, ◌/◌, ◌%◌, ◌<◌, ◌≤◌, ◌==◌, List, [], ◌∷◌, ◌++◌, Bool, true, ◌&&◌, not, nat_le, Result, Ok, IsUtf8, inl, inr, length, min, replicate, slice_index, take, drop, ap, ap₂, append-nil, append_assoc, codes, refl, subst, sym, arith}
use Rattle.std.specs.Fmt.{decimal}
use Rattle.std.specs.List.{All, AllByRecursion}
use Rattle.std.specs.Result.{OnOk, result_unwrap_or}
use Rattle.std.proofs.lemmas.Bool.{agree_below_at, and_from, and_parts, cases_lt, eqb-false, leb-true, not-true}
use Rattle.std.proofs.lemmas.List.{length-append, length-replicate, nil_from_length, take_at}
use Rattle.std.proofs.lemmas.List.Elements.{recursion_from_All}
use Rattle.std.proofs.lemmas.Str.{IsUtf8-from_ascii}
use Rattle.base64.specs.Engines.{standard}
use Rattle.base64.specs.GeneralPurpose.{IsEncodedOver, encode_of, encoded_size_of}
use Rattle.base64.specs.Rfc4648.{encode_symbols, padding_len}
use Rattle.base64.proofs.EngineFacts.{IsAscii-encode_of, encode_of-append, encode_of-nil}
use Rattle.base64.proofs.RoundTrip.{length-encode_symbols}
use Rattle.json.proofs.Printed.Strings.{escape_byte_plain}
use Rattle.json.proofs.Printed.Utf8.{IsUtf8-quoted}
use Rattle.json.specs.Print.{escape, escape_byte}
use Rattle.serde_json.specs.Data.{string}
use Rattle.serde_json.specs.Written.{compact_text}
use Rattle.hunk_json.specs.Document.{document, further_members}
use Rattle.hunk_json.specs.Escapes.{with_escapes}
use Rattle.hunk_json.specs.FileJson.{content_members, natural, stored_members}
use Rattle.hunk_json.specs.declared.form.JsonForm.{JsonForm}
use Rattle.hunk_json.proofs.EscapesLemmas.{are_plain, decimal-plain, is_plain, quoted-told, with_escapes-plain}

base64-ascii : (bytes : List ℕ) → IsUtf8 (encode_of standard bytes)
base64-ascii bytes = IsUtf8-from_ascii (encode_of standard bytes) (IsAscii-encode_of standard bytes)

pub base64-utf8 : (bytes : List ℕ) → IsUtf8 (compact_text (string (encode_of standard bytes)))
base64-utf8 bytes = IsUtf8-quoted (encode_of standard bytes) (base64-ascii bytes)

-- ---- piece by piece

-- a piece of 192 bytes, or the last one
pub encoded-piece : (piece rest all : List ℕ) → all ≡ piece ++ rest → length piece ≡ min 192 (length all) → encode_of standard all ≡ encode_of standard piece ++ encode_of standard rest
encoded-piece piece rest all parts short = elim (cases_lt (length all) 192) [
  | inl last ↦
      let none : rest ≡ [] = nil_from_length rest (omega (arith, ap length parts, length-append piece rest)) in
      let nothing : encode_of standard rest ≡ [] = ap (encode_of standard) none ∙ encode_of-nil standard in
      ap (encode_of standard) (parts ∙ ap (λ end. piece ++ end) none ∙ append-nil piece) ∙ sym (ap (λ end. encode_of standard piece ++ end) nothing ∙ append-nil (encode_of standard piece))
  | inr more ↦ ap (encode_of standard) parts ∙ encode_of-append standard piece rest (omega arith)
]

pub length-encoded : (bytes : List ℕ) → length (encode_of standard bytes) ≡ encoded_size_of standard (length bytes)
length-encoded bytes =
    let table = standard.encode_table in
    let count = padding_len (length bytes) in
    omega (arith, length-append (encode_symbols table bytes) (replicate count 61), length-encode_symbols table bytes, length-replicate {A = ℕ} count 61)

-- what was written at the start of a buffer with room for it
pub taken-symbols : {E : Type 0} (bytes old new : List ℕ) (result : Result ℕ E) (count : ℕ) → result ≡ Ok (encoded_size_of standard (length bytes)) → count ≡ result_unwrap_or result 0
    → OnOk result (IsEncodedOver standard bytes old new) → take count new ≡ encode_of standard bytes
taken-symbols bytes old new result count is counted written =
    let size = encoded_size_of standard (length bytes) in
    let over : IsEncodedOver standard bytes old new = subst (λ r. OnOk r (IsEncodedOver standard bytes old new)) is written in
    let all : count ≡ size = counted ∙ ap (λ r. result_unwrap_or r 0) is in
    ap₂ take all over ∙ take_at (encode_of standard bytes) (drop size old) size (length-encoded bytes)

-- ---- in a string

-- a character that nothing escapes in a string
abbrev is_kept : ℕ → Bool
is_kept c = is_plain c && nat_le 32 c && not (c == 34) && not (c == 92)

abbrev are_kept : List ℕ → Bool
are_kept [] = true
are_kept (c ∷ cs) = is_kept c && are_kept cs

symbol-kept : (k : ℕ) → k < 64 → is_kept (slice_index standard.encode_table k) ≡ true
symbol-kept k within = agree_below_at (λ i. is_kept (slice_index standard.encode_table i)) (λ i. true) 64 k refl within

abbrev AreBytes : List ℕ → Type 0
AreBytes bytes = AllByRecursion (λ b. b < 256) bytes

symbols-kept : (bytes : List ℕ) → AreBytes bytes → are_kept (encode_symbols standard.encode_table bytes) ≡ true
unfolding encode_symbols
symbols-kept [] typed = refl
symbols-kept (a ∷ []) (p, typed) = and_from _ _ (symbol-kept (a / 4) (omega arith)) (and_from _ true (symbol-kept (a % 4 * 16) (omega arith)) refl)
symbols-kept (a ∷ b ∷ []) (p, (q, typed)) =
    and_from _ _ (symbol-kept (a / 4) (omega arith)) (and_from _ _ (symbol-kept (a % 4 * 16 + b / 16) (omega arith)) (and_from _ true (symbol-kept (b % 16 * 4) (omega arith)) refl))
symbols-kept (a ∷ b ∷ c ∷ rest) (p, (q, (r, typed))) =
    and_from _ _ (symbol-kept (a / 4) (omega arith))
    (and_from _ _ (symbol-kept (a % 4 * 16 + b / 16) (omega arith))
    (and_from _ _ (symbol-kept (b % 16 * 4 + c / 64) (omega arith)) (and_from _ _ (symbol-kept (c % 64) (omega arith)) (symbols-kept rest typed))))

are_kept-padded : (cs : List ℕ) (count : ℕ) → are_kept cs ≡ true → are_kept (cs ++ replicate count 61) ≡ true
are_kept-padded [] zero kept = refl
are_kept-padded [] (suc count) kept = are_kept-padded [] count kept
are_kept-padded (c ∷ cs) count kept =
    let parts = and_parts (is_kept c) (are_kept cs) kept in
    and_from (is_kept c) (are_kept (cs ++ replicate count 61)) parts.0 (are_kept-padded cs count parts.1)

kept-escape : (cs : List ℕ) → are_kept cs ≡ true → escape cs ≡ cs
kept-escape [] kept = refl
kept-escape (c ∷ cs) kept =
    let parts = and_parts (is_kept c) (are_kept cs) kept in
    let tests = and_parts _ _ parts.0 in
    let more = and_parts _ _ tests.0 in
    let printable : 32 ≤ c = leb-true 32 c (and_parts _ _ more.0).1 in
    let no_quote = eqb-false c 34 (not-true (c == 34) more.1) in
    let no_backslash = eqb-false c 92 (not-true (c == 92) tests.1) in
    ap₂ (λ (a b : List ℕ). a ++ b) (escape_byte_plain c no_quote no_backslash printable) (kept-escape cs parts.1)

kept-plain : (cs : List ℕ) → are_kept cs ≡ true → are_plain cs ≡ true
kept-plain [] kept = refl
kept-plain (c ∷ cs) kept =
    let parts = and_parts (is_kept c) (are_kept cs) kept in
    let tests = and_parts _ _ (and_parts _ _ parts.0).0 in
    and_from (is_plain c) (are_plain cs) (and_parts _ _ tests.0).0 (kept-plain cs parts.1)

-- its symbols, between quotes
pub base64-told : (form : JsonForm) (bytes : List ℕ) → All (λ b. b < 256) bytes → document form (string (encode_of standard bytes)) ≡ (34 ∷ []) ++ encode_of standard bytes ++ (34 ∷ [])
base64-told form bytes typed =
    let symbols = encode_of standard bytes in
    let kept : are_kept symbols ≡ true = are_kept-padded (encode_symbols standard.encode_table bytes) (padding_len (length bytes)) (symbols-kept bytes (recursion_from_All (λ b. b < 256) bytes typed)) in
    quoted-told form symbols (base64-ascii bytes)
    ∙ ap (λ inner. (34 ∷ []) ++ inner ++ (34 ∷ [])) (ap (with_escapes form) (kept-escape symbols kept) ∙ with_escapes-plain form symbols (kept-plain symbols kept))

-- the members, each behind a comma
pub content-further : (form : JsonForm) (offset : ℕ) (content : List ℕ) → All (λ b. b < 256) content → content_members form offset content ≡ stored_members offset content
    → further_members form (content_members form offset content) ≡ codes ",\"content\":\"" ++ encode_of standard content ++ codes "\",\"content_offset\":" ++ decimal offset
unfolding escape_byte
content-further form offset content typed is =
    ap (further_members form) is
    ∙ ap (λ value. (codes ",\"content\":" ++ value) ++ ((codes ",\"content_offset\":" ++ document form (natural offset)) ++ [])) (base64-told form content typed)
    ∙ ap (λ value. (codes ",\"content\":" ++ ((34 ∷ []) ++ encode_of standard content ++ (34 ∷ []))) ++ ((codes ",\"content_offset\":" ++ value) ++ [])) (with_escapes-plain form (decimal offset) (decimal-plain offset))
    ∙ (simp (append_assoc, append-nil))
