-- The parts of a line come one after another.
use Rattle.std.proofs.Common.{◌≡◌, ◌+◌, ◌-◌, ℕ, List, [], ◌∷◌, ◌++◌, length, drop, get_or, slice_set, length-drop, sym, ap, ◌∙◌, append_assoc, arith}
use Rattle.std.proofs.lemmas.List.{drop_all, drop_at, drop_more, length-append, set_at, take_at}
use borrow.Rule.Slice.PartMut.{put_mid}
use Rattle.hex.specs.Hex.{lower_digits}
use Rattle.hex.proofs.HexLemmas.{length-encode_with}
use Rattle.std.specs.Int.{bytes_high_first}
use Rattle.hunk_base.specs.Digits.{eight_digits}
use Rattle.hunk_image_text.proofs.rows.put_report_line.Goals as goal

line_of_parts : (line address digits : List ℕ) (last : ℕ) → length address ≡ 8 → length line ≡ 10 + length digits → last ≡ 9 + length digits
    → slice_set (put_mid 9 (last - 9) (slice_set (address ++ drop 8 line) 8 32) digits) last 10 ≡ ((address ++ (32 ∷ [])) ++ digits) ++ (10 ∷ [])
line_of_parts line address digits last eight size end =
    let front : List ℕ = address ++ (32 ∷ []) in
    let rest : List ℕ = drop 9 line in
    let final : ℕ = get_or rest (last - 9) 0 in
    let nine : length front ≡ 9 = omega (arith, length-append address (32 ∷ [])) in
    let left : length rest ≡ 1 + length digits = omega (arith, length-drop 9 line) in
    let space : slice_set (address ++ drop 8 line) 8 32 ≡ front ++ rest =
    ap (λ tail. slice_set (address ++ tail) 8 32) (drop_more line 8 0 (omega arith))
    ∙ set_at address (get_or line 8 0) rest 32 8 eight
    ∙ sym (append_assoc address (32 ∷ []) rest) in
    let one : drop (last - 9) rest ≡ final ∷ [] =
    drop_more rest (last - 9) 0 (omega arith) ∙ ap (λ tail. final ∷ tail) (drop_all (last - 9 + 1) rest (omega arith)) in
    let parts : put_mid 9 (last - 9) (slice_set (address ++ drop 8 line) 8 32) digits ≡ (front ++ digits) ++ (final ∷ []) =
    ap (λ bytes. put_mid 9 (last - 9) bytes digits) space
    ∙ ap (λ start. start ++ (digits ++ drop (last - 9) (drop 9 (front ++ rest)))) (take_at front rest 9 nine)
    ∙ ap (λ tail. front ++ (digits ++ drop (last - 9) tail)) (drop_at front rest 9 nine)
    ∙ ap (λ tail. front ++ (digits ++ tail)) one
    ∙ sym (append_assoc front digits (final ∷ [])) in
    ap (λ bytes. slice_set bytes last 10) parts
    ∙ set_at (front ++ digits) final [] 10 last (omega (arith, length-append front digits))

pub returns : goal.returns
returns c =
    let eight : length (eight_digits c.args.address) ≡ 8 = length-encode_with lower_digits (bytes_high_first 4 c.args.address) in
    let size = length-encode_with lower_digits c.args.row.now in
    rw (c.put_digits.ensures, c.put_digits-2.ensures, c.to_be_bytes.ensures)
    (line_of_parts c.args.line.now (eight_digits c.args.address) _ (length c.args.line.now - 1) eight (omega (arith, size)) (omega (arith, size)))
