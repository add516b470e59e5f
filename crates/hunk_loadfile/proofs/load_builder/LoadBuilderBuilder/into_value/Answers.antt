use Rattle.std.proofs.Common.{sym, subst}
use Rattle.hunk_base.specs.Longwords.{longwords}
use Rattle.hunk_loadfile.specs.LoadFile.{IsLoad}
use Rattle.hunk_loadfile.proofs.RulesReadLemmas.{IsLoadFile-load}
use Rattle.hunk_loadfile.proofs.PartialLemmas.{with_tables-load}
use Rattle.hunk_loadfile.proofs.load_builder.LoadBuilderBuilder.into_value.Goals as goal

pub of_hunks-requires : goal.of_hunks-requires
of_hunks-requires g c =
    let ws = longwords c.requires.0 in
    IsLoadFile-load _ ws (with_tables-load c.args.self ws c.requires.1.1)

pub returns : goal.returns
returns g c = λ bytes tells.
    record { whole = tells.0; is_load = subst (λ hunks. IsLoad hunks (longwords bytes)) (sym c.of_hunks.ensures) (with_tables-load c.args.self (longwords bytes) tells.1) }
