use Rattle.std.proofs.Common.{Some, ap, ◌∙◌, lit<, arith}
use Rattle.std.proofs.lemmas.Grind.{common_steps}
use Rattle.std.proofs.lemmas.Iterator.Consumers.{YieldsList-at, YieldsList-end, YieldsList-so_far, YieldsList-turn}
use Rattle.std.proofs.lemmas.Iterator.Splits.{YieldsList-from_str_split}
use Rattle.hunk_addresses.specs.Bases.{parts}
use Rattle.hunk_addresses.proofs.BasesLemmas.{map-number_of, position-number_of}
use Rattle.hunk_addresses.proofs.bases.parse_bases.Goals as goal

pub returns-clause-numbers : goal.returns-clause-numbers
returns-clause-numbers g c =
    let road = YieldsList-from_str_split 44 c.args.text.now (lit< tt) c.split-part-items.ensures.text c.split-part-items.ensures.has_more c.split-part-items.ensures.pattern in
    let all = YieldsList-end (YieldsList-at c.into_iter-part-iterator.ensures.into_iter_gives road) c.loop-part.yielded _ c.loop-part.yielded_by _ _ c.in-None.is c.next.ensures.steps in
    map-number_of (λ part. part.now) c.loop-part.yielded (parts c.args.text.now) c.loop-part.bases.items c.loop-part.invariant.numbers all.0

pub returns-in_default-clause-refused : goal.returns-in_default-clause-refused
returns-in_default-clause-refused g c =
    let split = YieldsList-from_str_split 44 c.args.text.now (lit< tt) c.split-part-items.ensures.text c.split-part-items.ensures.has_more c.split-part-items.ensures.pattern in
    let road = YieldsList-at c.into_iter-part-iterator.ensures.into_iter_gives split in
    let so_far = YieldsList-so_far road c.loop-part.yielded _ c.loop-part.yielded_by in
    let turn = YieldsList-turn road c.loop-part.yielded _ c.loop-part.yielded_by _ _ c.in-Some.part c.in-Some.is c.next.ensures.steps in
    let first = position-number_of (λ part. part.now) c.loop-part.yielded (parts c.args.text.now) c.loop-part.bases.items c.in-Some.part.now c.loop-part.invariant.numbers so_far turn.0 turn.1 c.in_default.ensures in
    first ∙ ap Some (omega (arith, c.len.ensures))

-- `grind` at once: `search`, which Rattle tries before it, is slow here
pub returns-in_default-clause-numbers : goal.returns-in_default-clause-numbers
returns-in_default-clause-numbers g c = grind (arith, common_steps)

pub loop-part-preserved : goal.loop-part-preserved
loop-part-preserved g c = grind (arith, common_steps)

pub returns-in_err-map_err-clause-numbers : goal.returns-in_err-map_err-clause-numbers
returns-in_err-map_err-clause-numbers g c = grind (arith, common_steps)

pub returns-in_err-map_err-clause-refused : goal.returns-in_err-map_err-clause-refused
returns-in_err-map_err-clause-refused g c = grind (arith, common_steps)
