-- part by part: over the whole, the tactics find no proof
use Rattle.std.proofs.Common.{[], refl, arith}
use Rattle.hunk_loadfile.proofs.load_builder.LoadBuilderBuilder.new.Goals as goal

pub returns : goal.returns
returns g c = record {
  builds = c.new-2.ensures;
  ended = record {
    part = record { name = []; hunks = [] };
    one_part = refl;
    values = c.new.ensures.items;
    few = omega arith;
    count = refl;
  };
}
