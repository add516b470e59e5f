use Rattle.hunk_loadfile.proofs.ComparerLemmas.{StandsFor-none}
use Rattle.hunk_loadfile.proofs.comparer.Comparer.new.Goals as goal

pub returns-clause-stands : goal.returns-clause-stands
returns-clause-stands g c = StandsFor-none _ c.new.ensures c.new-2.ensures (c.new-3.ensures _)
