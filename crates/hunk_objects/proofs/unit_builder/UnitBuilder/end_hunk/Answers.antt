use Rattle.hunk_words.specs.PartialHunk.{goes_to_content}
use Rattle.hunk_objects.proofs.UnitBuilderLemmas.{Holds-end}
use Rattle.hunk_objects.proofs.unit_builder.UnitBuilder.end_hunk.Goals as goal

pub returns : goal.returns
returns g c = λ told context h.
    let e = c.in-Ok.ensures in
    Holds-end c.args.self.now c.in-Some.unit c.add_hunk.new.self c.add_hunk.new.hunk told context c.in-Some.is c.add_hunk.ensures.name
    (e.adds context.position.limit context.seen (goes_to_content told.receiver) told.hunk h.hunk) e.begins h
