use Rattle.std.proofs.Common.{◌+◌, ◌-◌, ◌∙◌, ℕ, length, ap, subst, sym, arith}
use Rattle.std.specs.Option.{option_map}
use Rattle.hunk_loadfile.proofs.ContentComparerLemmas.{unlike_byte-found, unlike_byte-rest, unlike_byte-whole, with_byte}
use Rattle.hunk_loadfile.proofs.FirstDifferenceLemmas.{nonzero}
use Rattle.hunk_loadfile.proofs.LowestLemmas.{IsLowest, IsLowest-lowest}
use Rattle.hunk_loadfile.proofs.content_comparer.ContentComparer.end.Goals as goal
use Rattle.hunk_loadfile.proofs.content_comparer.ContentComparer.end.Goals.{then-is_some-via-then-is_some, then-is_some-via-else-is_some+then-first-self}

pub returns-then-is_some : goal.returns-then-is_some
returns-then-is_some c = λ content follows. elim c.then-is_some.branch [
  | then-is_some-via-then-is_some w ↦ unlike_byte-found c.args.first.now content c.args.self.unlike follows.unlike (sym c.is_some.ensures ∙ w.if-is_some.true)
  | then-is_some-via-else-is_some+then-first-self w ↦ follows.unlike ∙ unlike_byte-whole c.args.first.now content (omega (arith, w.if-first-self.true, follows.count))
]

pub returns-in-Some : goal.returns-in-Some
returns-in-Some c = λ content follows.
    ap (option_map (with_byte (λ i. i) (λ i. 0))) (sym c.in-Some.is)
    ∙ unlike_byte-rest c.args.first.now content c.args.self.unlike c.args.self.count c.first_nonzero.result follows.count c.if-first-self.false follows.unlike (sym c.is_some.ensures ∙ c.if-is_some.false) c.first_nonzero.ensures

pub returns-in-None : goal.returns-in-None
returns-in-None c = λ content follows.
    ap (option_map (with_byte (λ i. i) (λ i. 0))) (sym c.in-None.is)
    ∙ unlike_byte-rest c.args.first.now content c.args.self.unlike c.args.self.count c.first_nonzero.result follows.count c.if-first-self.false follows.unlike (sym c.is_some.ensures ∙ c.if-is_some.false) c.first_nonzero.ensures

-- an offset in the first content
pub overflow_cast-result : goal.overflow_cast-result
overflow_cast-result c =
    let first = c.args.first.now in
    let start : ℕ = c.args.self.count in
    let here = subst (IsLowest (nonzero first) start (start + (length first - start))) (sym c.first_nonzero.ensures ∙ c.in-Some.is) (IsLowest-lowest (nonzero first) (length first - start) start) in
    omega (arith, here.1, c.requires, c.if-first-self.false)
