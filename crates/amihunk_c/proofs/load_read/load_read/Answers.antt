-- The hunks cannot be placed.
use Rattle.std.proofs.Common.{Err, sym, ap, ◌∙◌}
use Rattle.amihunk_c.proofs.LoadReadLemmas.{IsLoadOf-misplaced}
use Rattle.amihunk_c.proofs.load_read.load_read.Goals as goal

pub returns-in-Err-Place : goal.returns-in-Err-Place
returns-in-Err-Place c =
    IsLoadOf-misplaced c.args.bases.now _ c.in-Some.file.now c.in-Err-Place.fault c.of_place.result (sym c.in-Some.ensures)
    ((c.load.ensures.refused c.in-Err-Place.fault).0 (c.in-Err-Place.is ∙ ap Err c.in-Err-Place.field-0-is)) c.of_place.ensures
