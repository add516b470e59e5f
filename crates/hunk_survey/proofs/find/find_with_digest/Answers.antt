-- The hunks of an object file can be counted.
use Rattle.hunk_survey.proofs.FindLemmas.{units-fit}
use Rattle.hunk_survey.proofs.find.find_with_digest.Goals as goal

pub hunk_total-requires : goal.hunk_total-requires
hunk_total-requires g c =
    rw c.deref.ensures.value
    (units-fit c.in-Ok-Object.units.items (g.R.Source.left c.args.reader.now) (g.R.Source.left c.read_hunk_file.new.reader) (rw c.in-Ok-Object.field-0-is at c.in-Ok-Object.ensures.file))
