-- The load file that was put in the place of OUT, and why it was not.
use Rattle.std.proofs.Common.{subst}
use Rattle.std.specs.Io.KnownBytes.{Appends}
use Rattle.std.proofs.lemmas.Result.{err_from_is_err_and}
use Rattle.hunk_base.specs.Name.{bytes_of}
use Rattle.hunk_loadfile.specs.Rules.{IsLoadFile}
use Rattle.hunk_loadfile.specs.WrittenForm.{written_in}
use Rattle.hunk_store.specs.Store.{HasRun, IsCauseOf}
use Rattle.hunk_commands.proofs.LinkLemmas.{Appends-run, IsUnwritten-cause}
use Rattle.hunk_commands.proofs.link.write_out.Goals as goal

pub returns-in_err-finish-clause-err : goal.returns-in_err-finish-clause-err
returns-in_err-finish-clause-err g c =
    let p = err_from_is_err_and c.from_residual-in_err-finish.result c.from_residual-in_err-finish.ensures.1 in
    let failure = c.in_err-finish.field-0.0 in
    let content = g.S.FileSystem.content c.args.store.now c.args.out.now in
    rw (p.1, p.2) (IsUnwritten-cause content c.args.out.now failure c.write_load_with-written.result (subst (λ ran. IsCauseOf ran content c.args.out.now failure) c.as_run.ensures c.in_err-finish.ensures.cause))

pub returns-clause-ok : goal.returns-clause-ok
returns-clause-ok g c =
    let before = c.in_ok-new.new in
    let after = c.write_load_with-written.new.writer in
    let wrote = Appends-run before after g.S.New.Sink.taken g.S.New.Sink.failed _ c.write_load_with-written.result
    (subst HasRun c.as_run.ensures c.in_ok-finish.ensures.ran) c.write_load_with-written.ensures.wrote in
    record {
      file_is = c.trimmed-file.ensures;
      valid = subst IsLoadFile c.file.view_is c.file.invariant;
      start = g.S.New.Sink.taken before;
      taken = g.S.New.Sink.taken after;
      begun = c.in_ok-new.ensures.begun;
      written = subst (λ form. Appends (g.S.New.Sink.taken before) (g.S.New.Sink.taken after) (bytes_of (written_in form c.trimmed-file.result))) c.form.ensures wrote;
      replaced = c.in_ok-finish.ensures.replaced;
    }
