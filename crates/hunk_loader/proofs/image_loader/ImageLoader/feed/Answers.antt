-- If no error is kept, the builder stands for the events of the bytes.
use Rattle.hunk_loader.specs.ImageLoader.{events_told}
use Rattle.hunk_loader.proofs.KeptMemoryLemmas.{frugal}
use Rattle.hunk_loader.proofs.image_loader.ImageLoader.feed.Goals as goal

pub returns-clause-bounded : goal.returns-clause-bounded
returns-clause-bounded g c = λ bytes stands. frugal _ (events_told bytes) (stands.core.good c.in_ok-feed.ensures.kept).reached.stands
