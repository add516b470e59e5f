-- One more hunk, or none after the text has stopped.
use Rattle.std.proofs.Common.{◌≡◌, ◌∙◌, ◌++◌, ◌∷◌, ℕ, suc, List, ap, drop, length, subst, sym, take, arith}
use Rattle.std.proofs.lemmas.Grind.{flat_map-append}
use Rattle.std.proofs.lemmas.List.{take-append-drop, take_all}
use Rattle.std.proofs.lemmas.Result.{err_from_is_err_and}
use Rattle.std.proofs.Math.Seq.{drop-cons}
use Rattle.std.specs.List.{flat_map}
use Rattle.hunk_base.specs.Name.{bytes_of}
use Rattle.hunk_base.specs.Text.{Puts, PutsFront}
use Rattle.hunk_base.proofs.TextLemmas.{Puts-more, Puts-stopped, Puts-then}
use Rattle.hunk_loadfile.specs.LoadHunk.{FileHunk}
use Rattle.hunk_loadfile.specs.Rules.{IsLoadHunk}
use Rattle.hunk_loadfile.specs.WrittenForm.{hunk_words}
use Rattle.hunk_loadfile.specs.declared.load_form.LoadForm.{LoadForm}
use Rattle.hunk_loadfile.proofs.PutsLemmas.{PutsFront-before, PutsFront-behind}
use Rattle.hunk_loadfile.proofs.load_writer.write_hunks.Goals as goal

bytes_in_file : LoadForm → List FileHunk → FileHunk → List ℕ
bytes_in_file form hunks hunk = bytes_of (hunk_words form (length hunks) hunk)

pub returns-then-is_stopped-clause-wrote : goal.returns-then-is_stopped-clause-wrote
unfolding bytes_in_file
returns-then-is_stopped-clause-wrote g c =
    let hunks = c.args.hunks.now in
    let part = bytes_in_file c.args.form hunks in
    let front = take c.loop-hunk.hunk-index hunks in
    let left = drop c.loop-hunk.hunk-index hunks in
    subst (λ text. Puts g.W.Sink.taken g.W.Sink.failed c.args.text.now c.loop-hunk.text text) (sym (flat_map-append part front left) ∙ ap (flat_map part) (take-append-drop c.loop-hunk.hunk-index hunks))
    (Puts-then g.W.Sink.taken g.W.Sink.failed c.loop-hunk.invariant
    (Puts-stopped g.W.Sink.taken g.W.Sink.failed c.loop-hunk.text (flat_map part left) (sym c.is_stopped.ensures ∙ c.if-is_stopped.true)))

pub write_hunk-requires-clause-valid : goal.write_hunk-requires-clause-valid
write_hunk-requires-clause-valid g c =
    let valid = subst (IsLoadHunk (length c.args.hunks.now)) (sym c.hunk-item.is) (c.requires.each c.loop-hunk.hunk-index c.hunk-item.result c.loop-hunk-test.true) in
    record {
      typed = valid.typed;
      whole = valid.whole;
      content = valid.content;
      limit = valid.limit;
      targets = λ k d low. omega (arith, valid.targets k d low, c.requires.few);
      names = valid.names;
    }

pub returns-in_err-write_hunk-clause-stopped : goal.returns-in_err-write_hunk-clause-stopped
unfolding bytes_in_file
returns-in_err-write_hunk-clause-stopped g c =
    let hunks = c.args.hunks.now in
    let hunk = c.hunk-item.result in
    let i = c.loop-hunk.hunk-index in
    let part = bytes_in_file c.args.form hunks in
    let front = take i hunks in
    let behind = drop (suc i) hunks in
    let next : drop i hunks ≡ hunk ∷ behind = drop-cons hunks i hunk c.loop-hunk-test.true ∙ ap (λ (h : FileHunk). h ∷ behind) (sym c.hunk-item.is) in
    let parts = sym (flat_map-append part front (hunk ∷ behind)) ∙ ap (λ left. flat_map part (front ++ left)) (sym next) ∙ ap (flat_map part) (take-append-drop i hunks) in
    let p = err_from_is_err_and c.from_residual.result c.from_residual.ensures.1 in
    rw (p.1)
    (subst (λ text. PutsFront g.W.Sink.taken g.W.Sink.failed c.args.text.now c.write_hunk.new.text text) parts
    (PutsFront-behind g.W.Sink.taken g.W.Sink.failed c.loop-hunk.invariant
    (PutsFront-before g.W.Sink.taken g.W.Sink.failed (flat_map part behind) (c.in_err-write_hunk.ensures.stopped (length hunks)))))

pub returns-clause-wrote : goal.returns-clause-wrote
unfolding bytes_in_file
returns-clause-wrote g c =
    let hunks = c.args.hunks.now in
    subst (λ front. Puts g.W.Sink.taken g.W.Sink.failed c.args.text.now c.loop-hunk.text (flat_map (bytes_in_file c.args.form hunks) front)) (take_all c.loop-hunk.hunk-index hunks c.loop-hunk-test.false) c.loop-hunk.invariant

pub loop-hunk-preserved : goal.loop-hunk-preserved
unfolding bytes_in_file
loop-hunk-preserved g c =
    let hunks = c.args.hunks.now in
    let hunk = c.hunk-item.result in
    let valid = subst (IsLoadHunk (length hunks)) (sym c.hunk-item.is) (c.requires.each c.loop-hunk.hunk-index hunk c.loop-hunk-test.true) in
    Puts-more g.W.Sink.taken g.W.Sink.failed (bytes_in_file c.args.form hunks) hunks c.loop-hunk.hunk-index hunk hunk c.loop-hunk-test.true c.hunk-item.is c.loop-hunk.invariant (c.in_ok-write_hunk.ensures.wrote (length hunks) valid.targets)
