-- The hunk or the name takes the bytes, and they are those of the words.
use Rattle.std.proofs.Common.{◌≡◌, ◌++◌, ap, subst, sym, ◌∙◌}
use Rattle.std.proofs.lemmas.Result.{err_from_is_err_and}
use Rattle.hunk_words.specs.Event.{word_events}
use Rattle.hunk_base.specs.Longwords.{longwords}
use Rattle.hunk_base.specs.Name.{bytes_of}
use Rattle.hunk_words.specs.PartialHunk.{hunk_with_bytes}
use Rattle.hunk_base.proofs.LongwordsByteLemmas.{are-bytes, bytes_of-longwords}
use Rattle.hunk_objects.specs.UnitBuilder.{StandsFor}
use Rattle.hunk_objects.proofs.UnitBuilderLemmas.{StandsFor-bytes, StandsFor-name, StandsFor-name_kept}
use Rattle.hunk_objects.proofs.unit_builder.UnitBuilderTaker.take_words.Goals as goal

pub returns-in_ok-add_bytes-in-Hunk-clause-takes : goal.returns-in_ok-add_bytes-in-Hunk-clause-takes
returns-in_ok-add_bytes-in-Hunk-clause-takes g c = λ told stands few.
    let bytes = c.args.bytes.now in
    let b = c.args.self.now in
    let same : bytes_of (longwords bytes) ≡ bytes = bytes_of-longwords bytes (are-bytes bytes c.type_inv.bytes) c.requires in
    subst (λ k. StandsFor (record b { hunk = k }) (told ++ word_events (longwords bytes)))
    (ap (λ bs. record b.hunk { partial = hunk_with_bytes b.hunk.partial bs }) same ∙ sym c.in_ok-add_bytes-in-Hunk.ensures.adds)
    (StandsFor-bytes (longwords bytes) b told c.in-Hunk.is stands)

pub returns-in_err-add_bytes-in-Hunk-clause-takes : goal.returns-in_err-add_bytes-in-Hunk-clause-takes
returns-in_err-add_bytes-in-Hunk-clause-takes g c = λ told stands few.
    let p = err_from_is_err_and c.from_residual.result c.from_residual.ensures.1 in
    rw p.1 (subst (λ k. StandsFor (record c.args.self.now { hunk = k }) told) (sym c.in_err-add_bytes-in-Hunk.ensures.refused) stands)

pub returns-in_ok-push_bytes-in-Name-clause-takes : goal.returns-in_ok-push_bytes-in-Name-clause-takes
returns-in_ok-push_bytes-in-Name-clause-takes g c = λ told stands few.
    let bytes = c.args.bytes.now in
    let same : bytes_of (longwords bytes) ≡ bytes = bytes_of-longwords bytes (are-bytes bytes c.type_inv.bytes) c.requires in
    StandsFor-name (longwords bytes) c.args.self.now _ _ _ told c.in-Name.is (λ words opens. c.in_ok-push_bytes-in-Name.ensures.takes words (longwords bytes) same opens) stands

pub returns-in_err-push_bytes-in-Name-clause-takes : goal.returns-in_err-push_bytes-in-Name-clause-takes
returns-in_err-push_bytes-in-Name-clause-takes g c = λ told stands few.
    let p = err_from_is_err_and c.from_residual-in_err-push_bytes-in-Name.result c.from_residual-in_err-push_bytes-in-Name.ensures.1 in
    rw p.1 (StandsFor-name_kept c.args.self.now _ _ _ told c.in-Name.is c.in_err-push_bytes-in-Name.ensures.refuses stands)
