-- It has counted the whole file.
use Rattle.std.proofs.Common.{refl}
use Rattle.hunk_words.specs.Values.{object_value}
use Rattle.hunk_objects.specs.ProgramUnit.{object_units}
use Rattle.hunk_files.proofs.CountersLemmas.{units-counted}
use Rattle.hunk_files.proofs.counters.ObjectCounterBuilder.into_value.Goals as goal

pub returns : goal.returns
returns g c = λ bytes tells.
    let file = tells.1 in
    let counted = units-counted c.args.self file.tree file.is_file.fits file.stands in
    record {
      units = object_units (object_value file.tree);
      is_file = record { whole = tells.0; is_object = record { tree = file.tree; is_file = file.is_file; value = refl } };
      same_units = counted.0;
      same_hunks = counted.1;
    }
