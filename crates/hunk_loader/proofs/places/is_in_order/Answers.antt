-- `grind` at once: `search`, which Rattle tries before it, is slow here
use Rattle.std.proofs.Common.{arith}
use Rattle.std.proofs.lemmas.Grind.{common_steps}
use Rattle.hunk_loader.proofs.places.is_in_order.Goals as goal

pub returns-then-from-free : goal.returns-then-from-free
returns-then-from-free g c = grind (arith, common_steps)

pub end_of-free-requires-clause-sized : goal.end_of-free-requires-clause-sized
end_of-free-requires-clause-sized g c = grind (arith, common_steps)

pub end_of-free-requires-clause-based : goal.end_of-free-requires-clause-based
end_of-free-requires-clause-based g c = grind (arith, common_steps)

pub returns : goal.returns
returns g c = grind (arith, common_steps)
