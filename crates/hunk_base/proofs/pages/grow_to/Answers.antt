use Rattle.hunk_base.proofs.PagesLemmas.{AppendsEmptyPages-push}
use Rattle.hunk_base.proofs.pages.grow_to.Goals as goal

pub loop-alloc-preserved : goal.loop-alloc-preserved
loop-alloc-preserved g c =
    AppendsEmptyPages-push c.if-capacity-number.pages.items c.loop-alloc.pages.items c.push.new.self.items c.loop-alloc.invariant (rw c.new.ensures at c.in_ok-push.ensures.items)
