-- The lines about one file after another were printed.
use Rattle.std.proofs.Common.{subst, take}
use Rattle.std.proofs.lemmas.Result.{err_from_is_err_and}
use Rattle.hunk_tool.specs.Inputs.{file_names}
use Rattle.hunk_commands.specs.Survey.{AreTold}
use Rattle.hunk_commands.proofs.SurveyLemmas.{names-next, told-none, untold-next}
use Rattle.hunk_commands.proofs.survey.tell_of_files.Goals as goal

pub loop-name-init : goal.loop-name-init
loop-name-init g c = rw c.new-tally.ensures (told-none c.args.plan (g.S.FileSystem.content c.args.store.now) (g.O.Sink.taken c.args.output.now))

pub loop-name-preserved : goal.loop-name-preserved
loop-name-preserved g c =
    let next = c.in_ok-tell_of.ensures.ok (take c.loop-name.name-index (file_names c.args.files.now)) (g.O.Sink.taken c.args.output.now) c.loop-name.invariant in
    subst (λ names. AreTold c.args.plan (g.S.FileSystem.content c.args.store.now) names (g.O.Sink.taken c.args.output.now) (g.O.Sink.taken c.tell_of.new.output) c.tell_of.new.tally)
    (names-next c.args.files.now _ c.loop-name.name-index c.loop-name-test.true) next

pub returns-in_err-tell_of-clause-err : goal.returns-in_err-tell_of-clause-err
returns-in_err-tell_of-clause-err g c = λ list.
    let p = err_from_is_err_and c.from_residual.result c.from_residual.ensures.1 in
    let untold = c.in_err-tell_of.ensures.err (take c.loop-name.name-index (file_names c.args.files.now)) (g.O.Sink.taken c.args.output.now) list c.loop-name.invariant in
    rw (p.1, p.2) (untold-next c.args.plan (g.S.FileSystem.content c.args.store.now) list c.args.files.now _ c.loop-name.name-index _ _ _ _ c.loop-name-test.true untold)
