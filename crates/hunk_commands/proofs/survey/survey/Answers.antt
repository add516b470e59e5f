-- All lines were printed, or not.
use Rattle.std.proofs.Common.{inl, inr, subst, sym}
use Rattle.std.proofs.lemmas.Result.{err_from_is_err_and}
use Rattle.hunk_tool.specs.Inputs.{file_names}
use Rattle.hunk_store.specs.FileList.{given_list}
use Rattle.hunk_store.specs.Output.{printed_of}
use Rattle.hunk_commands.specs.Survey.{IsSurveyFailure}
use Rattle.hunk_commands.proofs.SurveyLemmas.{cut-at-end, cut-in-last, surveyed, untold-short}
use Rattle.hunk_commands.proofs.survey.survey.Goals as goal

pub returns-in_err-tally-clause-err : goal.returns-in_err-tally-clause-err
returns-in_err-tally-clause-err g c =
    let p = err_from_is_err_and c.from_residual.result c.from_residual.ensures.1 in
    let stopped = rw c.plan_of-plan.ensures at c.in_err-tally.ensures.err in
    rw (p.1, p.2) (elim stopped [
      | inl unopened ↦ inl unopened
      | inr untold ↦ inr (untold.0, untold.1, untold-short _ (g.S.FileSystem.content c.args.store.now) (given_list c.args.list) untold.0 (printed_of g.O.Sink.taken g.O.Sink.failed g.O.Output.waiting c.args.output.now c.tell_of_all.new.output) _ untold.2)
    ])

pub returns-clause-ok : goal.returns-clause-ok
returns-clause-ok g c =
    let all = rw c.plan_of-plan.ensures at c.in_ok-tally.ensures.ok in (
      all.0,
      all.1,
      surveyed _ (g.S.FileSystem.content c.args.store.now) all.0 (printed_of g.O.Sink.taken g.O.Sink.failed g.O.Output.waiting c.args.output.now c.flush.new.output) c.in_ok-tally.tally _ all.2 _ c.status.result
          (rw c.plan_of-plan.ensures at c.in-Ok.ensures.0) c.in_ok-flush.ensures.same c.in_ok-flush.ensures.flushed c.status.ensures,
    )

pub returns-in_default-clause-err : goal.returns-in_default-clause-err
returns-in_default-clause-err g c =
    let all = rw c.plan_of-plan.ensures at c.in_ok-tally.ensures.ok in
    let stopped = rw c.plan_of-plan.ensures at c.in_default.ensures in
    inr (all.0, all.1, cut-in-last _ (g.S.FileSystem.content c.args.store.now) all.0 (printed_of g.O.Sink.taken g.O.Sink.failed g.O.Output.waiting c.args.output.now c.write_last_lines.new.writer) c.in_ok-tally.tally _ all.2 (given_list c.args.list) stopped.0 stopped.1.0 stopped.1.1)

pub returns-in_err-flush-clause-err : goal.returns-in_err-flush-clause-err
returns-in_err-flush-clause-err g c =
    let p = err_from_is_err_and c.from_residual-in_err-flush.result c.from_residual-in_err-flush.ensures.1 in
    let all = rw c.plan_of-plan.ensures at c.in_ok-tally.ensures.ok in
    let printed = printed_of g.O.Sink.taken g.O.Sink.failed g.O.Output.waiting c.args.output.now c.flush.new.output in
    let cut = cut-at-end _ (g.S.FileSystem.content c.args.store.now) all.0 printed c.in_ok-tally.tally _ all.2 (given_list c.args.list) _ (rw c.plan_of-plan.ensures at c.in-Ok.ensures.0) c.in_err-flush.ensures.same c.in_err-flush.ensures.failed in
    rw (p.1, p.2) (subst (IsSurveyFailure c.args.options (g.S.FileSystem.content c.args.store.now) (file_names c.args.files.now) (given_list c.args.list) printed) (sym c.in_err-flush.ensures.err) (inr (all.0, all.1, cut)))
