-- The hunk takes the bytes, and they are those of the words.
use Rattle.std.proofs.Common.{◌≡◌, subst, sym}
use Rattle.std.proofs.lemmas.Result.{err_from_is_err_and}
use Rattle.hunk_base.specs.Longwords.{longwords}
use Rattle.hunk_base.specs.Name.{bytes_of}
use Rattle.hunk_base.proofs.LongwordsByteLemmas.{are-bytes, bytes_of-longwords}
use Rattle.hunk_loadfile.specs.HunkBuilder.{Builds, with_content}
use Rattle.hunk_loadfile.proofs.HunkBuilderLemmas.{Builds-run, receives-content}
use Rattle.hunk_loadfile.proofs.hunk_builder.HunkBuilder.add_bytes.Goals as goal

pub returns : goal.returns
returns g c = λ told watch h.
    let bytes = c.args.bytes.now in
    let b = c.args.self.now in
    let same : bytes_of (longwords bytes) ≡ bytes = bytes_of-longwords bytes (are-bytes bytes c.type_inv.bytes) c.requires in
    let goes = receives-content b told.receiver c.in-Content.is h.receiver in
    (goes, subst (λ k. Builds (record b { hunk = k }) (with_content told (longwords bytes)) watch) (sym c.in_ok-add_bytes.ensures.takes) (Builds-run b bytes (longwords bytes) told watch same goes h))

pub returns-in_err-add_bytes : goal.returns-in_err-add_bytes
returns-in_err-add_bytes g c = λ told watch h.
    let p = err_from_is_err_and c.from_residual.result c.from_residual.ensures.1 in
    rw p.1 (subst (λ k. Builds (record c.args.self.now { hunk = k }) told watch) (sym c.in_err-add_bytes.ensures.refuses) h)
