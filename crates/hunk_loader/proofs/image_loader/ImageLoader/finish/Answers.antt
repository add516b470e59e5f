-- What is wrong with the file comes first, and then the bases.
use Rattle.std.proofs.Common.{Err, ap, subst}
use Rattle.std.proofs.lemmas.Result.{err_from_is_err_and}
use Rattle.hunk_loader.specs.ImageLoader.{Finished, bases_of}
use Rattle.hunk_loader.proofs.ImageLoaderLemmas.{Finished-image, Finished-refusal, again-ok, again-err}
use Rattle.hunk_loader.proofs.image_loader.ImageLoader.finish.Goals as goal

pub returns-in_err-finish-clause-answer : goal.returns-in_err-finish-clause-answer
returns-in_err-finish-clause-answer g c = λ bytes stands.
    let p = err_from_is_err_and c.from_residual.result c.from_residual.ensures.1 in
    rw (p.1, p.2) (Finished-refusal (bases_of c.args.self) bytes _ (c.in_err-finish.ensures.answer bytes stands))

pub returns-in_err-finish-clause-again : goal.returns-in_err-finish-clause-again
returns-in_err-finish-clause-again g c = λ refusal is.
    let p = err_from_is_err_and c.from_residual.result c.from_residual.ensures.1 in
    rw (p.1, p.2) (ap (λ e. Err e) (again-err _ _ _ c.in_err-finish.was c.finish.ensures.again refusal is))

pub returns-clause-answer : goal.returns-clause-answer
returns-clause-answer g c = λ bytes stands.
    subst (λ bs. Finished bs bytes c.image.result) c.in_ok-finish.ensures.given
    (Finished-image c.in_ok-finish.field-0 bytes c.image.result (c.in_ok-finish.ensures.answer bytes stands) c.image.ensures)

pub returns-clause-again : goal.returns-clause-again
returns-clause-again g c = λ refusal is. absurd (again-ok _ _ _ c.in_ok-finish.was c.finish.ensures.again refusal is)
