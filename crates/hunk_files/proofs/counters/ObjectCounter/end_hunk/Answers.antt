-- One more hunk of the current unit.
use Rattle.std.proofs.Common.{refl, arith}
use Rattle.hunk_files.proofs.CountersLemmas.{stands-end}
use Rattle.hunk_files.proofs.counters.ObjectCounter.end_hunk.Goals as goal

pub returns-clause-takes : goal.returns-clause-takes
returns-clause-takes g c = λ told stands few.
    stands-end told c.args.self.now _ stands (omega arith) refl (omega (arith, few, stands.few, c.saturating_add-self.ensures)) (c.end.ensures _ _ stands.holds.holds_hunk)
