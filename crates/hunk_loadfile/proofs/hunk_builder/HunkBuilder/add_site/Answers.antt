use Rattle.hunk_loadfile.proofs.HunkBuilderLemmas.{steps-site}
use Rattle.hunk_loadfile.proofs.hunk_builder.HunkBuilder.add_site.Goals as goal

pub returns-clause-steps : goal.returns-clause-steps
returns-clause-steps g c = steps-site c.args.self.now c.add_site.new.self c.add_site.result c.args.offset c.args.target c.add_site.ensures
