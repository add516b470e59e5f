-- Before the first event nothing is kept but the bases.
use Rattle.hunk_loader.proofs.KeptMemoryLemmas.{IsBounded-begun}
use Rattle.hunk_loader.proofs.image_builder.ImageBuilder.new.Goals as goal

pub invariant_of-result : goal.invariant_of-result
invariant_of-result g c = (rw (c.new.ensures.items, c.new-2.ensures.items) (IsBounded-begun _), tt)
