-- The lines about the files in a list follow those about the others, or stop.
use Rattle.std.proofs.Common.{Some, ◌∷◌, ◌++◌, [], append-nil, append_assoc, refl, rules, subst, sym}
use Rattle.std.proofs.lemmas.Result.{err_from_is_err_and}
use Rattle.hunk_store.specs.FileList.{list_of}
use Rattle.hunk_store.specs.NameReader.{HasNoName, TakesNames, unread}
use Rattle.hunk_store.proofs.NameReaderLemmas.{takes-all, takes-first, takes-more, takes-none}
use Rattle.hunk_commands.specs.Survey.{AreTold, AreUntold}
use Rattle.hunk_commands.proofs.SurveyLemmas.{told-whole}
use Rattle.hunk_commands.proofs.survey.tell_of_list.Goals as goal

pub names-init : goal.names-init
names-init g c = record {
  listed = [];
  same_end = refl;
  taken = takes-none c.args.names.end (unread g.S.File.Source.left c.args.names);
  told = λ names start told. subst (λ all. AreTold c.args.plan (g.S.FileSystem.content c.args.store.now) all start (g.O.Sink.taken c.args.output.now) c.args.others) (sym (append-nil names)) told;
}

pub names-preserved : goal.names-preserved
names-preserved g c =
    let kept = c.names.invariant in
    let name = c.next.new.name.items in
    let one = subst (λ end. TakesNames end (unread g.S.File.Source.left c.names.names) (unread g.S.File.Source.left c.next.new.self) (name ∷ [])) kept.same_end (c.next.ensures.some (search (rules, c.in-Ok-true.is, c.in-Ok-true.field-0-test))) in
    record {
      listed = kept.listed ++ name ∷ [];
      same_end = search (rules, kept.same_end, c.next.ensures.end);
      taken = takes-more c.args.names.end _ _ _ kept.listed (name ∷ []) kept.taken one;
      told = λ names start told.
          subst (λ all. AreTold c.args.plan (g.S.FileSystem.content c.args.store.now) all start (g.O.Sink.taken c.tell_of.new.output) c.tell_of.new.tally) (append_assoc names kept.listed (name ∷ []))
          (rw c.deref.ensures.value at c.in_ok-tell_of-in-Ok-true.ensures.ok (names ++ kept.listed) start (kept.told names start told));
    }

pub returns-in_err-tell_of-in-Ok-true-clause-err : goal.returns-in_err-tell_of-in-Ok-true-clause-err
returns-in_err-tell_of-in-Ok-true-clause-err g c = λ names start told.
    let p = err_from_is_err_and c.from_residual.result c.from_residual.ensures.1 in
    let kept = c.names.invariant in
    let name = c.next.new.name.items in
    let one = subst (λ end. TakesNames end (unread g.S.File.Source.left c.names.names) (unread g.S.File.Source.left c.next.new.self) (name ∷ [])) kept.same_end (c.next.ensures.some (search (rules, c.in-Ok-true.is, c.in-Ok-true.field-0-test))) in
    let taken = takes-more c.args.names.end _ _ _ kept.listed (name ∷ []) kept.taken one in
    let untold = rw c.deref.ensures.value at c.in_err-tell_of-in-Ok-true.ensures.err (names ++ kept.listed) start (Some (list_of c.args.list)) (kept.told names start told) in
    rw (p.1, p.2) (
      kept.listed ++ name ∷ [],
      takes-first c.args.names.end _ _ _ taken,
      subst (λ all. AreUntold c.args.plan (g.S.FileSystem.content c.args.store.now) (Some (list_of c.args.list)) all start (g.O.Sink.taken c.tell_of.new.output) (g.O.Sink.failed c.tell_of.new.output) c.in_err-tell_of-in-Ok-true.field-0.0) (append_assoc names kept.listed (name ∷ [])) untold,
    )

pub returns-in-Ok-false-clause-ok : goal.returns-in-Ok-false-clause-ok
returns-in-Ok-false-clause-ok g c = λ names start told.
    let kept = c.names.invariant in
    let none = subst (λ end. HasNoName end (unread g.S.File.Source.left c.names.names)) kept.same_end (c.next.ensures.none (search (rules, c.in-Ok-false.is, c.in-Ok-false.field-0-test))) in
    (kept.listed, takes-all c.args.names.end _ _ kept.listed kept.taken none, kept.told names start told)

pub returns-in-Err-Device-clause-err : goal.returns-in-Err-Device-clause-err
returns-in-Err-Device-clause-err g c = λ names start told.
    let kept = c.names.invariant in
    let failing = c.next.ensures.device (search (rules, c.in-Err-Device.is, c.in-Err-Device.field-0-is)) in
    let nothing_known = g.met.S.FileSystem.may_fail c.args.store.now c.args.list.file.now _ failing in
    (kept.listed, takes-first c.args.names.end _ _ kept.listed kept.taken, (told-whole c.args.plan (g.S.FileSystem.content c.args.store.now) _ start _ c.names.tally (kept.told names start told), (refl, nothing_known)))

pub returns-in-Err-OutOfMemory-clause-err : goal.returns-in-Err-OutOfMemory-clause-err
returns-in-Err-OutOfMemory-clause-err g c = λ names start told.
    let kept = c.names.invariant in
    rw c.out_of_memory.ensures (kept.listed, takes-first c.args.names.end _ _ kept.listed kept.taken, (told-whole c.args.plan (g.S.FileSystem.content c.args.store.now) _ start _ c.names.tally (kept.told names start told), refl))

pub returns-clause-err : goal.returns-clause-err
returns-clause-err g c = λ names start told.
    let kept = c.names.invariant in
    rw c.out_of_memory-2.ensures (kept.listed, takes-first c.args.names.end _ _ kept.listed kept.taken, (told-whole c.args.plan (g.S.FileSystem.content c.args.store.now) _ start _ c.names.tally (kept.told names start told), refl))
