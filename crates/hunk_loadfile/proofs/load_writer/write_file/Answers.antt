-- The header, and then the hunks.
use Rattle.std.proofs.Common.{◌∙◌, ap, subst, sym}
use Rattle.std.proofs.lemmas.Result.{on_err_weaker, on_ok_weaker}
use Rattle.hunk_base.specs.Name.{bytes_of}
use Rattle.hunk_base.specs.Text.{Puts, PutsFront}
use Rattle.hunk_base.proofs.TextLemmas.{Puts-then}
use Rattle.hunk_loadfile.specs.WrittenForm.{written_in}
use Rattle.hunk_loadfile.proofs.LoadWriterLemmas.{file-bytes, length-file-lt}
use Rattle.hunk_loadfile.proofs.PutsLemmas.{PutsFront-behind}
use Rattle.hunk_loadfile.proofs.load_writer.write_file.Goals as goal

pub returns-clause-wrote : goal.returns-clause-wrote
returns-clause-wrote g c =
    let parts = sym (file-bytes c.args.form c.hunks-hunks.result.now) ∙ ap (λ file. bytes_of (written_in c.args.form file)) c.hunks-hunks.ensures.value in
    on_ok_weaker c.write_hunks.result
    (λ puts. subst (λ text. Puts g.W.Sink.taken g.W.Sink.failed c.args.text.now c.write_hunks.new.text text) parts (Puts-then g.W.Sink.taken g.W.Sink.failed c.write_header.ensures puts))
    c.write_hunks.ensures.wrote

pub returns-clause-stopped : goal.returns-clause-stopped
returns-clause-stopped g c =
    let parts = sym (file-bytes c.args.form c.hunks-hunks.result.now) ∙ ap (λ file. bytes_of (written_in c.args.form file)) c.hunks-hunks.ensures.value in
    on_err_weaker c.write_hunks.result
    (λ puts. subst (λ text. PutsFront g.W.Sink.taken g.W.Sink.failed c.args.text.now c.write_hunks.new.text text) parts (PutsFront-behind g.W.Sink.taken g.W.Sink.failed c.write_header.ensures puts))
    c.write_hunks.ensures.stopped

pub returns-clause-short : goal.returns-clause-short
returns-clause-short g c = length-file-lt c.args.form c.args.file.now c.hunks-hunks.ensures.valid
