-- A refusal is that of the bytes read.
use Rattle.std.proofs.lemmas.Result.{err_from_is_err_and}
use Rattle.hunk_uses.proofs.BootLemmas.{boot-stopped}
use Rattle.hunk_uses.proofs.emulator.load_program.Goals as goal

pub returns-in_err-read_all-clause-refused : goal.returns-in_err-read_all-clause-refused
returns-in_err-read_all-clause-refused g c =
    let p = err_from_is_err_and c.from_residual.result c.from_residual.ensures.1 in
    rw (p.1, p.2) (boot-stopped c.read_all.new.decoder c.args.first _ _ (g.D.Source.ended c.read_all.new.reader) (g.D.Source.failed c.read_all.new.reader) _ c.in_err-read_all.ensures.stopped)
