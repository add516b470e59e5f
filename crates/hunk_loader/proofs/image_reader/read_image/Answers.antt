-- A refusal is that of the bytes read, or of their end.
use Rattle.std.proofs.Common.{Err, subst, ◌∙◌}
use Rattle.std.proofs.lemmas.Result.{err_from_is_err_and}
use Rattle.hunk_base.proofs.StreamsLemmas.{HasRead-weaker}
use Rattle.hunk_loader.specs.ImageLoader.{Finished, LoadsAs, StandsFor}
use Rattle.hunk_loader.proofs.ImageReaderLemmas.{IsImageFault-end, IsImageFault-stopped}
use Rattle.hunk_loader.proofs.image_reader.read_image.Goals as goal

pub returns-in_err-read_all-clause-refused : goal.returns-in_err-read_all-clause-refused
returns-in_err-read_all-clause-refused g c =
    let p = err_from_is_err_and c.from_residual-in_err-read_all.result c.from_residual-in_err-read_all.ensures.1 in
    rw (p.1, p.2) (IsImageFault-stopped c.read_all.new.decoder c.args.bases.now _ _ (g.R.Source.failed c.read_all.new.reader) (g.R.Source.ended c.read_all.new.reader) _ c.in_err-read_all.ensures.stopped)

pub returns-in_err-finish-clause-refused : goal.returns-in_err-finish-clause-refused
returns-in_err-finish-clause-refused g c =
    let p = err_from_is_err_and c.from_residual-in_err-finish.result c.from_residual-in_err-finish.ensures.1 in
    let bases = c.in_ok-read_all.ensures.given ∙ c.in_ok-loader.ensures.given in
    rw (p.1, p.2)
    (IsImageFault-end c.read_all.new.decoder _ c.args.bases.now _ _ (g.R.Source.failed c.read_all.new.reader) (g.R.Source.ended c.read_all.new.reader)
    c.in_ok-read_all.ensures.whole c.in_ok-read_all.ensures.ended
    (λ bytes stands. subst (λ bs. Finished bs bytes (Err c.in_err-finish.field-0.0)) bases (c.in_err-finish.ensures.answer bytes stands)))

pub returns-clause-image : goal.returns-clause-image
returns-clause-image g c =
    let bases = c.in_ok-read_all.ensures.given ∙ c.in_ok-loader.ensures.given in
    HasRead-weaker _ _ (StandsFor c.read_all.new.decoder) (λ bytes. LoadsAs c.args.bases.now bytes c.in_ok-finish.field-0)
    (λ bytes stands. subst (λ bs. LoadsAs bs bytes c.in_ok-finish.field-0) bases (c.in_ok-finish.ensures.answer bytes stands)) c.in_ok-read_all.ensures.whole
