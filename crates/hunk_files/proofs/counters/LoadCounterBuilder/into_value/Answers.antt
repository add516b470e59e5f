-- It has counted the whole file.
use Rattle.std.proofs.Common.{refl}
use Rattle.hunk_loadfile.specs.LoadFile.{load_value}
use Rattle.hunk_files.proofs.CountersLemmas.{hunks-counted}
use Rattle.hunk_files.proofs.counters.LoadCounterBuilder.into_value.Goals as goal

pub returns : goal.returns
returns g c = λ bytes tells.
    let file = tells.1 in
    record {
      hunks = load_value file.tree;
      is_file = record { whole = tells.0; is_load = record { tree = file.tree; is_file = file.is_file; value = refl } };
      same_hunks = hunks-counted c.args.self file.tree file.is_file.fits file.stands;
    }
