-- No byte of a document in a page is a less-than sign.
use Rattle.std.proofs.Common.{◌≡◌, ◌≢◌, ℕ, ◌/◌, ◌%◌, ◌==◌, List, [], ◌∷◌, false, ◌||◌, slice_index, inl, inr, refl, subst, sym, arith}
use Rattle.std.specs.Char.{encode_utf8}
use Rattle.std.specs.Int.{bytes_high_first}
use Rattle.std.specs.List.{All, flat_map}
use Rattle.std.specs.Str.{chars}
use Rattle.std.proofs.lemmas.Bool.{agree_below_at, cases_lt, cond_both, eqb-false, or_parts}
use Rattle.std.proofs.lemmas.List.{get_or_past}
use Rattle.std.proofs.lemmas.List.Elements.{All-append, All-cons, All-from_get_or, All-nil}
use Rattle.std.proofs.lemmas.Str.{encode_ascii}
use Rattle.hex.specs.Hex.{encode_lower, encode_with, lower_digits}
use Rattle.hunk_json.specs.Escapes.{character_text, is_escaped, is_late_control, turns_text, unicode_escape, with_escapes}
use Rattle.hunk_json.specs.declared.form.JsonForm.TheVariants.{InPage}
use Rattle.hunk_json.proofs.EscapesLemmas.{encode-high}

abbrev IsNoTag : ℕ → Type 0
IsNoTag byte = byte ≢ 60

digit-no_tag : (k : ℕ) → IsNoTag (slice_index lower_digits k)
digit-no_tag k = elim (cases_lt k 16) [
  | inl within ↦ eqb-false (slice_index lower_digits k) 60 (agree_below_at (λ i. slice_index lower_digits i == 60) (λ i. false) 16 k refl within)
  | inr past ↦ subst IsNoTag (sym (get_or_past lower_digits k 0 past)) (λ is. omega arith)
]

digits-no_tag : (bytes : List ℕ) → All IsNoTag (encode_lower bytes)
unfolding encode_with
digits-no_tag [] = All-nil IsNoTag
digits-no_tag (b ∷ bytes) =
    let low = slice_index lower_digits (b % 16) in
    All-cons IsNoTag (slice_index lower_digits (b / 16)) (low ∷ encode_lower bytes) (digit-no_tag (b / 16)) (All-cons IsNoTag low (encode_lower bytes) (digit-no_tag (b % 16)) (digits-no_tag bytes))

escape-no_tag : (c : ℕ) → All IsNoTag (unicode_escape c)
escape-no_tag c =
    let digits = encode_lower (bytes_high_first 2 c) in
    All-cons IsNoTag 92 (117 ∷ digits) (λ is. omega arith) (All-cons IsNoTag 117 digits (λ is. omega arith) (digits-no_tag (bytes_high_first 2 c)))

itself-no_tag : (c : ℕ) → (c ≡ 60 → ⊥) → All IsNoTag (encode_utf8 c)
itself-no_tag c other = elim (cases_lt c 128) [
  | inl small ↦ subst (All IsNoTag) (sym (encode_ascii c small)) (All-cons IsNoTag c [] other (All-nil IsNoTag))
  | inr big ↦ All-from_get_or IsNoTag (encode_utf8 c) 0 (λ i within is. omega (arith, encode-high c big i within))
]

character-no_tag : (c : ℕ) → All IsNoTag (character_text InPage c)
character-no_tag c =
    cond_both (is_escaped InPage c) (unicode_escape c) (encode_utf8 c) (All IsNoTag) (λ is. escape-no_tag c)
    (λ is. itself-no_tag c (eqb-false c 60 (or_parts (is_late_control c || turns_text c) (c == 60) is).1))

characters-no_tag : (cs : List ℕ) → All IsNoTag (flat_map (character_text InPage) cs)
characters-no_tag [] = All-nil IsNoTag
characters-no_tag (c ∷ cs) = All-append IsNoTag (character_text InPage c) (flat_map (character_text InPage) cs) (character-no_tag c) (characters-no_tag cs)

pub with_escapes-no_tag : (text : List ℕ) → All (λ byte. byte ≢ 60) (with_escapes InPage text)
with_escapes-no_tag text = characters-no_tag (chars text)
