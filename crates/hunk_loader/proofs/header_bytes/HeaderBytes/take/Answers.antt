-- First up to the number of hunks, and then up to the last size.
use Rattle.std.proofs.Common.{◌≡◌, ℕ, ◌-◌, List, ◌++◌, drop, length, min, Ok, Err, take, ap, subst, ◌∙◌, arith}
use Rattle.std.proofs.lemmas.List.{length-drop, take_all}
use Rattle.std.proofs.lemmas.Result.{err_from_is_err_and}
use Rattle.hunk_base.specs.Longwords.{longwords}
use Rattle.hunk_words.proofs.DecoderLemmas.{append-rest}
use Rattle.hunk_loader.specs.HeaderBytes.{Holds, TakesUntil}
use Rattle.hunk_loader.specs.HeaderHunks.{header_length}
use Rattle.hunk_loader.specs.ImageLoader.{Fed}
use Rattle.hunk_loader.proofs.HeaderBytesLemmas.{StopsAtEnd-twice, taken-twice}
use Rattle.hunk_loader.proofs.header_bytes.HeaderBytes.take.Goals as goal

-- the rest of a piece, as the second call gets it
rest-is : (piece : List ℕ) (front : ℕ) → take (length piece - front) (drop front piece) ≡ drop front piece
rest-is piece front = take_all (length piece - front) (drop front piece) (omega (arith, length-drop front piece))

pub slice_bounds-take_until-count : goal.slice_bounds-take_until-count
slice_bounds-take_until-count g c = c.in_ok-front.ensures.within

pub overflow_add-result : goal.overflow_add-result
overflow_add-result g c = omega (arith, c.in_ok-front.ensures.within, c.in_ok-more.ensures.within)

pub returns-in_err-more : goal.returns-in_err-more
returns-in_err-more g c = λ bytes holds within.
    let p = err_from_is_err_and c.from_residual-in_err-more.result c.from_residual-in_err-more.ensures.1 in
    let piece = c.args.piece.now in
    let front = c.in_ok-front.front in
    let refused = c.in_err-more.ensures.taken (bytes ++ take front piece) (c.in_ok-front.ensures.taken bytes holds).1 in
    rw (p.1, p.2) (subst (λ bs. Fed bs (Err c.in_err-more.field-0.0)) (ap (λ bs. (bytes ++ take front piece) ++ bs) (rest-is piece front) ∙ append-rest bytes piece front) refused)

pub returns : goal.returns
returns g c = λ bytes holds within.
    let piece = c.args.piece.now in
    let front = c.in_ok-front.front in
    let more = c.in_ok-more.more in
    let first = c.in_ok-front.ensures.taken bytes holds in
    let second = subst (λ bs. TakesUntil c.end.result (bytes ++ take front piece) bs c.take_until-2.new.self (Ok more)) (rest-is piece front)
    (c.in_ok-more.ensures.taken (bytes ++ take front piece) first.1) in
    let end : c.end.result ≡ header_length (longwords (bytes ++ take front piece)) = c.end.ensures ∙ ap (λ bs. header_length (longwords bs)) first.1.kept in
    let rest = second.0 ∙ ap (λ n. min (length (drop front piece)) (n - length (bytes ++ take front piece))) end in
    (StopsAtEnd-twice bytes piece front more within first.0 rest, subst (λ bs. Holds c.take_until-2.new.self bs) (taken-twice bytes piece front more) second.1)
