use Rattle.std.proofs.Common.{sym, subst}
use Rattle.hunk_loadfile.specs.Rules.{IsLoadFile}
use Rattle.hunk_loadfile.proofs.RulesLemmas.{IsLoadFile-from}
use Rattle.hunk_loadfile.proofs.load_file.LoadFile.new.Goals as goal

pub invariant_of-result : goal.invariant_of-result
invariant_of-result g c =
    subst IsLoadFile c.deref.ensures.value (IsLoadFile-from c.deref.result.now (sym c.in-None.ensures.first) c.in-None.ensures.typed)
