use Rattle.hunk_loadfile.proofs.ComparerLemmas.{beside-other, steps-beside}
use Rattle.hunk_loadfile.proofs.comparer.Comparer.add_event.Goals as goal

pub returns-in_default-clause-steps : goal.returns-in_default-clause-steps
returns-in_default-clause-steps g c =
    steps-beside c.args.self.now c.take.new.self c.take.result c.args.event c.take.ensures.only (λ told watch h. beside-other c.args.event c.in_default.not-Word told.receiver) c.take.ensures.steps
