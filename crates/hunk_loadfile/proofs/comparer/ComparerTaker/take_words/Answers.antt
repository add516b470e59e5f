use Rattle.std.proofs.Common.{◌≡◌, ◌∙◌, sym}
use Rattle.std.proofs.lemmas.Result.{err_from_is_err_and}
use Rattle.hunk_base.specs.Longwords.{longwords}
use Rattle.hunk_base.specs.Name.{bytes_of}
use Rattle.hunk_base.proofs.LongwordsByteLemmas.{are-bytes, bytes_of-longwords}
use Rattle.hunk_loadfile.proofs.ComparerLemmas.{StandsFor-run, content-goes}
use Rattle.hunk_loadfile.proofs.comparer.ComparerTaker.take_words.Goals as goal

pub returns-in_err-take_content-clause-takes : goal.returns-in_err-take_content-clause-takes
returns-in_err-take_content-clause-takes g c = λ told stands few.
    let bytes = c.args.bytes.now in
    let same : bytes_of (longwords bytes) ≡ bytes = bytes_of-longwords bytes (are-bytes bytes c.type_inv.bytes) c.requires in
    let p = err_from_is_err_and c.from_residual.result c.from_residual.ensures.1 in
    rw p.1 (c.in_err-take_content.ensures.compares _ _ (longwords bytes) stands (sym same))

pub returns-clause-takes : goal.returns-clause-takes
returns-clause-takes g c = λ told stands few.
    let bytes = c.args.bytes.now in
    let same : bytes_of (longwords bytes) ≡ bytes = bytes_of-longwords bytes (are-bytes bytes c.type_inv.bytes) c.requires in
    StandsFor-run c.take_content.new.self told (longwords bytes) (content-goes _ (sym (c.takes_content.ensures _ _ stands.builds) ∙ c.if-not-takes_content.false))
    (c.in_ok-take_content.ensures.compares _ _ (longwords bytes) stands (sym same))
