use Rattle.hunk_loadfile.proofs.HunkBuilderLemmas.{Builds-size}
use Rattle.hunk_loadfile.proofs.hunk_builder.HunkBuilder.add_size.Goals as goal

pub returns-in-Ok : goal.returns-in-Ok
returns-in-Ok g c = λ told watch h. Builds-size c.args.self.now c.push.new.self c.args.bits c.args.size told watch c.in-Ok.ensures.items h
