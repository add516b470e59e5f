-- The image of the file that was read is its loaded memory.
use Rattle.std.proofs.Common.{subst, sym}
use Rattle.std.proofs.lemmas.Result.{err_from_is_err_and}
use Rattle.std.specs.List.{All}
use Rattle.hunk_image_text.specs.ImageText.{EndsInside}
use Rattle.hunk_tool.specs.Load.{loaded_text}
use Rattle.hunk_tool.proofs.LoadLemmas.{HasTextAt-loaded, IsFaultAt-read, IsFaultAt-written, IsWrittenAt-of, few-loaded, ends-loaded}
use Rattle.hunk_tool.proofs.load.load_run_with.Goals as goal

pub returns-in_err-image-clause-err : goal.returns-in_err-image-clause-err
returns-in_err-image-clause-err g c =
    let p = err_from_is_err_and c.from_residual.result c.from_residual.ensures.1 in
    rw (p.1, p.2) (IsFaultAt-read g.row.A.Denot (loaded_text c.args.form) c.args.bases.now (g.R.Source.left c.args.reader.now) (g.R.Source.left c.read_image.new.reader) (g.R.Source.failed c.read_image.new.reader) (g.R.Source.ended c.read_image.new.reader) (g.W.Sink.taken c.args.writer.now) (g.W.Sink.failed c.args.writer.now) _ c.in_err-image.ensures.refused)

pub write_image-requires-clause-few : goal.write_image-requires-clause-few
write_image-requires-clause-few g c =
    let read = c.in_ok-image.ensures.image in
    few-loaded c.args.bases.now read.bytes c.hunks.result.now _ c.hunks.ensures read.holds

pub write_image-requires-clause-inside : goal.write_image-requires-clause-inside
write_image-requires-clause-inside g c =
    let read = c.in_ok-image.ensures.image in
    subst (All EndsInside) (sym c.hunks.ensures) (ends-loaded c.args.bases.now read.bytes _ read.holds)

pub returns-in_err-write_image-clause-err : goal.returns-in_err-write_image-clause-err
returns-in_err-write_image-clause-err g c =
    let p = err_from_is_err_and c.from_residual-in_err-write_image.result c.from_residual-in_err-write_image.ensures.1 in
    rw (p.1, p.2)
    (IsFaultAt-written g.row.A.Denot g.W.Sink.taken g.W.Sink.failed c.args.writer.now c.write_image.new.writer (loaded_text c.args.form) c.args.bases.now _ (g.R.Source.left c.args.reader.now) (g.R.Source.left c.read_image.new.reader) (g.R.Source.failed c.read_image.new.reader) (g.R.Source.ended c.read_image.new.reader) _
    c.in_ok-image.ensures.ended (HasTextAt-loaded c.args.form c.args.bases.now _ _ _ c.in_ok-image.ensures.image) c.in_err-write_image.ensures.device (rw c.hunks.ensures at c.in_err-write_image.ensures.wrote))

pub returns-clause-ok : goal.returns-clause-ok
returns-clause-ok g c = IsWrittenAt-of (loaded_text c.args.form) _ _ _ _ _ _ (HasTextAt-loaded c.args.form c.args.bases.now _ _ _ c.in_ok-image.ensures.image) (rw c.hunks.ensures at c.in_ok-write_image.ensures.wrote).0
