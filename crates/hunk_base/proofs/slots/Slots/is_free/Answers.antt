use Rattle.hunk_base.proofs.SlotsLemmas.{Meets-decides}
use Rattle.hunk_base.proofs.slots.Slots.is_free.Goals as goal

pub returns : goal.returns
returns g c =
    rw c.self.view_is at (Meets-decides c.is_free_in.result c.self.inside.first c.args.offset c.self.inside.marks.items c.self.inside.targets.items c.self.invariant
    (rw c.deref.ensures.value at c.is_free_in.ensures))
