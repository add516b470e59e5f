-- Where it stopped: before the list, or in it.
use Rattle.std.proofs.Common.{None, Some, inr, refl, subst}
use Rattle.std.proofs.lemmas.Result.{IfErr-weaker, err_from_is_err_and}
use Rattle.hunk_tool.specs.Inputs.{file_names}
use Rattle.hunk_store.specs.FileList.{list_of}
use Rattle.hunk_store.specs.NameReader.{AreFirstNames, unread}
use Rattle.hunk_commands.proofs.SurveyNamesLemmas.{stopped-in-files, stopped-in-list}
use Rattle.hunk_commands.proofs.survey.tell_of_all.Goals as goal

pub returns-in-None-clause-err : goal.returns-in-None-clause-err
returns-in-None-clause-err g c = rw c.in-None.is (IfErr-weaker c.tell_of_files.result _ _ (λ failure untold. inr (file_names c.args.files.now, refl, untold)) (c.tell_of_files.ensures.err None))

pub returns-in_err-tally-in-Some-clause-err : goal.returns-in_err-tally-in-Some-clause-err
returns-in_err-tally-in-Some-clause-err g c =
    let p = err_from_is_err_and c.from_residual-in_err-tally-in-Some.result c.from_residual-in_err-tally-in-Some.ensures.1 in
    let list = list_of c.in-Some.list in
    rw (c.in-Some.is, p.1, p.2) (stopped-in-files c.args.plan (g.S.FileSystem.content c.args.store.now) list (file_names c.args.files.now) _ _ _ _ _ c.in_ok-names-in-Some.ensures.there (c.in_err-tally-in-Some.ensures.err (Some list)))

pub returns-in_ok-tally-in-Some-clause-err : goal.returns-in_ok-tally-in-Some-clause-err
returns-in_ok-tally-in-Some-clause-err g c =
    let contents = g.S.FileSystem.content c.args.store.now in
    let files = file_names c.args.files.now in
    let start = g.O.Sink.taken c.args.output.now in
    let names = unread g.S.File.Source.left c.in_ok-names-in-Some.names in
    rw c.in-Some.is (IfErr-weaker c.tell_of_list.result _ _
    (λ failure stopped. stopped-in-list c.args.plan contents (list_of c.in-Some.list) files start _ _ failure names stopped.0 c.in_ok-names-in-Some.ensures.there
    (subst (λ end. AreFirstNames end names stopped.0) c.in_ok-names-in-Some.ensures.end stopped.1) stopped.2)
    (c.tell_of_list.ensures.err files start c.in_ok-tally-in-Some.ensures.ok))
