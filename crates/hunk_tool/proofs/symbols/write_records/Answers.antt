-- The image of the file, and what was written of it.
use Rattle.std.proofs.Common.{◌∙◌, Err, length, ap, sym, subst, refl}
use Rattle.std.specs.Io.KnownBytes.{Appends}
use Rattle.std.proofs.KnownBytes.{Keeps-refl}
use Rattle.std.proofs.lemmas.Result.{err_from_is_err_and}
use Rattle.hunk_loader.specs.Image.{hunks_of}
use Rattle.hunk_tool.specs.Symbols.{symbols_text}
use Rattle.hunk_tool.specs.declared.symbol_form.SymbolForm.TheVariants.{Records}
use Rattle.hunk_tool.proofs.SymbolsLemmas.{IsPlacedFault-written, inside-loaded, length-loaded, record_text-loaded}
use Rattle.hunk_tool.proofs.symbols.write_records.Goals as goal

pub write_all_records-requires-clause-counted : goal.write_all_records-requires-clause-counted
write_all_records-requires-clause-counted g c =
    length-loaded c.args.file.now c.args.bases.now c.hunks.result.now (c.hunks.ensures ∙ c.in-Ok.ensures.image) (c.in-Ok.ensures.placed refl) ∙ ap length (sym c.hunks-hunks.ensures.value)

pub write_all_records-requires-clause-inside : goal.write_all_records-requires-clause-inside
write_all_records-requires-clause-inside g c =
    inside-loaded c.args.file.now c.args.bases.now (hunks_of c.hunks.result.now) (c.hunks.ensures ∙ c.in-Ok.ensures.image) (c.in-Ok.ensures.placed refl)

pub returns-in_err-write_all_records-in-Ok-clause-err : goal.returns-in_err-write_all_records-in-Ok-clause-err
returns-in_err-write_all_records-in-Ok-clause-err g c =
    let p = err_from_is_err_and c.from_residual.result c.from_residual.ensures.1 in
    let is = record_text-loaded c.hunks-hunks.result.now c.args.file.now c.args.bases.now (hunks_of c.hunks.result.now) c.hunks-hunks.ensures.value (c.hunks.ensures ∙ c.in-Ok.ensures.image) in
    rw (p.1, p.2)
    (IsPlacedFault-written g.row.A.Denot g.W.Sink.taken g.W.Sink.failed c.args.writer.now c.write_all_records.new.writer (symbols_text Records) c.args.file.now c.args.bases.now _ c.in_err-write_all_records-in-Ok.field-0.0
    (c.in-Ok.ensures.placed refl) is c.in_err-write_all_records-in-Ok.ensures.device c.in_err-write_all_records-in-Ok.ensures.wrote)

pub returns-in_ok-write_all_records-in-Ok-clause-ok : goal.returns-in_ok-write_all_records-in-Ok-clause-ok
returns-in_ok-write_all_records-in-Ok-clause-ok g c =
    let is = record_text-loaded c.hunks-hunks.result.now c.args.file.now c.args.bases.now (hunks_of c.hunks.result.now) c.hunks-hunks.ensures.value (c.hunks.ensures ∙ c.in-Ok.ensures.image) in
    (c.in-Ok.ensures.placed refl, subst (Appends (g.W.Sink.taken c.args.writer.now) (g.W.Sink.taken c.write_all_records.new.writer)) is c.in_ok-write_all_records-in-Ok.ensures.wrote.0)

pub returns-in-Err-Place-clause-err : goal.returns-in-Err-Place-clause-err
returns-in-Err-Place-clause-err g c =
    let fault = c.in-Err-Place.fault in
    rw c.in-Err-Place.field-0-is ((c.in-Err-Place.ensures.refused fault).0 (ap Err c.in-Err-Place.field-0-is), Keeps-refl (g.W.Sink.taken c.args.writer.now))
