use Rattle.std.proofs.Common.{◌≡◌, ◌-◌, ◌==◌, ℕ, List, length, slice_index, not, true, Some, None, ap, arith}
use Rattle.std.proofs.lemmas.Bool.{ne_eqb}
use Rattle.hunk_loadfile.specs.Patching.{byte_or_zero}
use Rattle.hunk_loadfile.proofs.LowestLemmas.{lowest-is}
use Rattle.hunk_loadfile.proofs.difference.first_nonzero.Goals as goal

pub returns-then-content-offset-ne0 : goal.returns-then-content-offset-ne0
returns-then-content-offset-ne0 c =
    let content : List ℕ = c.args.content.now in
    let start : ℕ = c.args.start in
    let offset : ℕ = c.loop-offset.offset in
    let nonzero : not (slice_index content offset == 0) ≡ true = ap not (ne_eqb (slice_index content offset) 0 c.if-content-offset-ne0.true) in
    lowest-is (λ i. not (byte_or_zero content i == 0)) start (length content - start) (length content) (Some offset) (omega arith) (omega arith, omega arith, nonzero, c.loop-offset.invariant)

pub returns : goal.returns
returns c =
    let content : List ℕ = c.args.content.now in
    let start : ℕ = c.args.start in
    lowest-is (λ i. not (byte_or_zero content i == 0)) start (length content - start) (length content) None (omega arith) (λ i low high. c.loop-offset.invariant i low (omega arith))
