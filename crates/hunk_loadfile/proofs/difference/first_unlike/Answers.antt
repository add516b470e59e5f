use Rattle.std.proofs.Common.{◌≡◌, ◌==◌, ◌∙◌, ℕ, List, min, length, take, slice_index, not, true, Some, None, sym, ap, subst, zero-add, arith}
use Rattle.std.proofs.lemmas.Bool.{ne_eqb}
use Rattle.std.specs.Cmp.Lexicographic.{same_text}
use Rattle.hunk_loadfile.specs.Difference.{has_same_byte}
use Rattle.hunk_loadfile.proofs.FirstDifferenceLemmas.{same_front-byte}
use Rattle.hunk_loadfile.proofs.LowestLemmas.{lowest-is}
use Rattle.hunk_loadfile.proofs.difference.first_unlike.Goals as goal

pub returns-then-first-offset : goal.returns-then-first-offset
returns-then-first-offset c =
    let first : List ℕ = c.args.first.now in
    let second : List ℕ = c.args.second.now in
    let offset : ℕ = c.loop-offset.offset in
    let count : ℕ = min (length first) (length second) in
    let unlike : not (slice_index first offset == slice_index second offset) ≡ true = ap not (ne_eqb (slice_index first offset) (slice_index second offset) c.if-first-offset.true) in
    lowest-is (λ i. not (has_same_byte first second i)) 0 count count (Some offset) (zero-add count) (omega arith, omega arith, unlike, c.loop-offset.invariant)

pub returns : goal.returns
returns c =
    let first : List ℕ = c.args.first.now in
    let second : List ℕ = c.args.second.now in
    let count : ℕ = min (length first) (length second) in
    lowest-is (λ i. not (has_same_byte first second i)) 0 count count None (zero-add count) (λ i low high. c.loop-offset.invariant i low (omega arith))

-- One front of both, so no byte differs there.
pub returns-then-eq : goal.returns-then-eq
returns-then-eq c =
    let first : List ℕ = c.args.first.now in
    let second : List ℕ = c.args.second.now in
    let count : ℕ = min (length first) (length second) in
    let front : take count first ≡ take count second = subst (λ n. take n first ≡ take n second) c.min-count.ensures (same_text (take c.min-count.result first) (take c.min-count.result second) (sym c.if-eq.true ∙ c.eq.ensures)) in
    lowest-is (λ i. not (has_same_byte first second i)) 0 count count None (zero-add count) (λ i low high. same_front-byte first second count i high front)
