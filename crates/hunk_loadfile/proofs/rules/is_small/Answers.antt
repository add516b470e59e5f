use Rattle.std.proofs.Common.{arith, subst, ap}
use Rattle.std.proofs.lemmas.Grind.{common_steps}
use Rattle.std.proofs.lemmas.List.Elements.{All-more}
use Rattle.std.proofs.lemmas.List.Sums.{sum_by_more}
use Rattle.hunk_loadfile.specs.LoadHunk.{FileHunk}
use Rattle.hunk_loadfile.specs.Rules.{IsTyped, carried_by}
use Rattle.hunk_loadfile.proofs.rules.is_small.Goals as goal

pub loop-hunk-preserved : goal.loop-hunk-preserved
loop-hunk-preserved g c =
    let xs = c.args.hunks.now in
    let i = c.loop-hunk.hunk-index in
    let x = c.hunk-item.result in
    let sizes = sum_by_more (λ (h : FileHunk). h.size) xs i x c.loop-hunk-test.true in
    let costs = sum_by_more carried_by xs i x c.loop-hunk-test.true in
    let size_here = ap (λ (h : FileHunk). h.size) c.hunk-item.is in
    let cost_here = ap carried_by c.hunk-item.is in
    let typed : IsTyped x = record { bytes = c.size_of.ensures.bytes; apart = c.size_of.ensures.apart; symbols = c.in-Some.ensures.symbols; debugs = c.in-Some.ensures.debugs } in
    record {
      bounded = omega (arith, c.loop-hunk.invariant.bounded);
      sized = omega (arith, sizes, size_here, c.size_of.ensures.size, c.from-size.ensures, c.loop-hunk.invariant.sized);
      room = omega (arith, costs, cost_here, c.in-Some.ensures.room, c.loop-hunk.invariant.room);
      typed = All-more IsTyped xs i x c.loop-hunk-test.true c.loop-hunk.invariant.typed (subst IsTyped c.hunk-item.is typed);
    }

-- `grind` at once: `search`, which Rattle tries before it, is slow here
pub returns-in-None-clause-small : goal.returns-in-None-clause-small
returns-in-None-clause-small g c = grind (arith, common_steps)

pub returns-clause-small : goal.returns-clause-small
returns-clause-small g c = grind (arith, common_steps)

pub returns-clause-typed : goal.returns-clause-typed
returns-clause-typed g c = grind (arith, common_steps)
