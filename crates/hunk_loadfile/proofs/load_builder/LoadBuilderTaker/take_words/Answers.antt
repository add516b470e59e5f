-- The current hunk takes the words.
use Rattle.hunk_base.specs.Longwords.{longwords}
use Rattle.hunk_loadfile.proofs.LoadBuilderLemmas.{StandsFor-run}
use Rattle.hunk_loadfile.proofs.load_builder.LoadBuilderTaker.take_words.Goals as goal

pub returns-clause-takes : goal.returns-clause-takes
returns-clause-takes g c = λ told stands few.
    StandsFor-run c.args.self.now c.add_bytes.new.self told (longwords c.args.bytes.now) c.add_bytes.result (c.add_bytes.ensures _ _ stands.builds) stands
