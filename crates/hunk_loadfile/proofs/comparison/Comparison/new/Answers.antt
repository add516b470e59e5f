use Rattle.hunk_loadfile.proofs.ComparisonLemmas.{HasFound-none}
use Rattle.hunk_loadfile.proofs.comparison.Comparison.new.Goals as goal

pub returns : goal.returns
returns g c = HasFound-none
