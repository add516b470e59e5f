-- What is found is what was counted.
use Rattle.hunk_survey.proofs.FindLemmas.{HasRead-counted_load, HasRead-counted_object}
use Rattle.hunk_survey.proofs.find.find_by_counting.Goals as goal

pub returns-in-Ok-Object : goal.returns-in-Ok-Object
returns-in-Ok-Object g c =
    let found = HasRead-counted_object c.in-Ok-Object.counter (g.R.Source.left c.args.reader.now) (g.R.Source.left c.count_file.new.reader) (rw c.in-Ok-Object.field-0-is at c.in-Ok-Object.ensures.file) in
    rw (c.units.ensures, c.hunks.ensures) (c.in-Ok-Object.ensures.ended, found)

pub returns-in-Ok-Load : goal.returns-in-Ok-Load
returns-in-Ok-Load g c =
    let found = HasRead-counted_load c.in-Ok-Load.counter (g.R.Source.left c.args.reader.now) (g.R.Source.left c.count_file.new.reader) (rw c.in-Ok-Load.field-0-is at c.in-Ok-Load.ensures.file) in
    rw c.hunks-in-Ok-Load.ensures (c.in-Ok-Load.ensures.ended, found)
