-- named, so that a mistake is refused without a look for advice
use Rattle.std.proofs.Common.{rules}
use Rattle.hunk_loader.proofs.image_loader.ImageLoader.new.Goals as goal

pub returns-clause-given : goal.returns-clause-given
returns-clause-given g c = search rules
