-- The hunks are not placed.
use Rattle.amihunk_c.proofs.SizingLemmas.{PlacesHunks-unplaced}
use Rattle.amihunk_c.proofs.header.place_hunks.Goals as goal

pub returns-in-Err : goal.returns-in-Err
returns-in-Err c =
    PlacesHunks-unplaced c.args.bases.now c.args.session.now c.in-Sizing.header c.place-placed.new.self c.in-Err.refusal c.unplaced_answer.result c.in-Sizing.is
    c.place-placed.ensures.same c.unplaced_answer.ensures c.in-Err.ensures.refused
