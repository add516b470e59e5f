-- Each exit of the run, and the report of what the units define.
use Rattle.std.proofs.Common.{Err, true, refl, ap, ◌∙◌}
use Rattle.std.proofs.KnownBytes.{Keeps-refl}
use Rattle.std.proofs.lemmas.Result.{err_from_is_err_and}
use Rattle.hunk_base.specs.Name.{bytes_of}
use Rattle.hunk_loadfile.specs.WrittenForm.{written_form}
use Rattle.hunk_loader.specs.Image.{hunks_of}
use Rattle.hunk_tool.specs.Image.{direct_text}
use Rattle.hunk_tool.proofs.ImageLemmas.{HaveRead-not_placed, HaveRead-written, IsUnitsFault-unlinked, IsUnitsFault-written, LoadsAs-written, image-tells}
use Rattle.hunk_tool.proofs.LoadLemmas.{ends-loaded, few-loaded}
use Rattle.hunk_tool.proofs.image.image_run_with.Goals as goal

pub returns-in_err-file-clause-err : goal.returns-in_err-file-clause-err
returns-in_err-file-clause-err g c =
    let p = err_from_is_err_and c.from_residual.result c.from_residual.ensures.1 in
    rw (p.1, p.2)
    (IsUnitsFault-unlinked true (direct_text c.args.form) c.args.bases.now _ (g.W.Sink.taken c.args.writer.now) (g.W.Sink.failed c.args.writer.now) _ c.in_err-file.ensures.unlinked)

pub write_image-requires-clause-few : goal.write_image-requires-clause-few
write_image-requires-clause-few g c =
    few-loaded c.args.bases.now (bytes_of (written_form c.in_ok-file.file)) c.hunks.result.now _ c.hunks.ensures
    (LoadsAs-written c.in_ok-file.file c.args.bases.now _ c.hunks-hunks.ensures.valid c.in_ok-file.ensures.short (c.in-Ok.ensures.placed refl) c.in-Ok.ensures.image)

pub write_image-requires-clause-inside : goal.write_image-requires-clause-inside
write_image-requires-clause-inside g c =
    ends-loaded c.args.bases.now (bytes_of (written_form c.in_ok-file.file)) (hunks_of c.hunks.result.now)
    (LoadsAs-written c.in_ok-file.file c.args.bases.now _ c.hunks-hunks.ensures.valid c.in_ok-file.ensures.short (c.in-Ok.ensures.placed refl) (c.hunks.ensures ∙ c.in-Ok.ensures.image))

pub returns-in_err-write_image-in-Ok-clause-err : goal.returns-in_err-write_image-in-Ok-clause-err
returns-in_err-write_image-in-Ok-clause-err g c =
    let p = err_from_is_err_and c.from_residual-in_err-write_image-in-Ok.result c.from_residual-in_err-write_image-in-Ok.ensures.1 in
    let tells = image-tells c.args.form c.args.bases.now c.in_ok-file.file (hunks_of c.hunks.result.now) (c.hunks.ensures ∙ c.in-Ok.ensures.image) in
    rw (p.1, p.2)
    (IsUnitsFault-written g.row.A.Denot g.W.Sink.taken g.W.Sink.failed c.args.writer.now c.write_image.new.writer true (direct_text c.args.form) c.args.bases.now _ c.in_ok-file.file _ c.in_err-write_image-in-Ok.field-0.0
    c.in_ok-file.ensures.linked (c.in-Ok.ensures.placed refl) tells
    c.in_err-write_image-in-Ok.ensures.device c.in_err-write_image-in-Ok.ensures.wrote)

pub returns-in_ok-write_image-in-Ok-clause-ok : goal.returns-in_ok-write_image-in-Ok-clause-ok
returns-in_ok-write_image-in-Ok-clause-ok g c =
    let tells = image-tells c.args.form c.args.bases.now c.in_ok-file.file (hunks_of c.hunks.result.now) (c.hunks.ensures ∙ c.in-Ok.ensures.image) in
    HaveRead-written _ true (direct_text c.args.form) c.args.bases.now c.in_ok-file.file _ _ _
    c.in_ok-file.ensures.linked (c.in-Ok.ensures.placed refl) tells c.in_ok-write_image-in-Ok.ensures.wrote.0

pub returns-in-Err-Place-clause-err : goal.returns-in-Err-Place-clause-err
returns-in-Err-Place-clause-err g c =
    let fault = c.in-Err-Place.fault in
    rw c.in-Err-Place.field-0-is (
      HaveRead-not_placed _ true c.args.bases.now c.in_ok-file.file fault c.in_ok-file.ensures.linked ((c.in-Err-Place.ensures.refused fault).0 (ap Err c.in-Err-Place.field-0-is)),
      Keeps-refl (g.W.Sink.taken c.args.writer.now),
    )
