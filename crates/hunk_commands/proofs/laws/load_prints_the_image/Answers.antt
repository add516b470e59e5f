use Rattle.hunk_commands.proofs.HeadlineLemmas.{load_prints_the_image}
use Rattle.hunk_commands.proofs.laws.load_prints_the_image.Goals as goal

pub returns : goal.returns
returns c = load_prints_the_image
