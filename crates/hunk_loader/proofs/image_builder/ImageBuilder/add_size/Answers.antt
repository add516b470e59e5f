-- One more size is kept.
use Rattle.std.proofs.Common.{rules}
use Rattle.hunk_loader.proofs.ImageBuilderLemmas.{TakesEvent-size}
use Rattle.hunk_loader.proofs.KeptMemoryLemmas.{IsBounded-takes}
use Rattle.hunk_loader.proofs.TargetsLemmas.{NamesHunks-more}
use Rattle.hunk_loader.proofs.image_builder.ImageBuilder.add_size.Goals as goal

pub invariant_of-self-2 : goal.invariant_of-self-2
invariant_of-self-2 g c = (
  IsBounded-takes _ _ _ _ (TakesEvent-size _ _ c.args.bits c.args.size c.in-Unknown.is (search rules)) c.self.invariant.0,
  NamesHunks-more _ _ c.self.inside.current (search rules) c.self.invariant.1,
)
