-- The line about one more file was printed, or not.
use Rattle.std.proofs.Common.{◌∷◌, [], refl}
use Rattle.std.proofs.lemmas.Result.{IfOk-weaker}
use Rattle.hunk_commands.proofs.SurveyLemmas.{cut-at-flush, cut-in-line, told-first, told-kept, told-more, untold-at-flush}
use Rattle.hunk_commands.proofs.survey.tell_of.Goals as goal

pub returns-in_default-clause-err : goal.returns-in_default-clause-err
returns-in_default-clause-err g c = λ names start list told.
    rw c.out_of_memory.ensures (told-first c.args.plan (g.S.FileSystem.content c.args.store.now) names (c.args.name.now ∷ []) start _ c.args.tally.now told, refl)

pub returns-in_default-write_line-clause-err : goal.returns-in_default-write_line-clause-err
returns-in_default-write_line-clause-err g c = λ names start list told.
    let stopped = c.in_default-write_line.ensures in (
      cut-in-line c.args.plan (g.S.FileSystem.content c.args.store.now) names c.args.name.now c.in-Ok.finding start _ _ c.args.tally.now stopped.0 told c.in-Ok.ensures.file stopped.1.0,
      stopped.1.1,
    )

pub returns-clause-ok : goal.returns-clause-ok
returns-clause-ok g c = λ names start told.
    let contents = g.S.FileSystem.content c.args.store.now in
    let more = told-more c.args.plan contents names c.args.name.now c.in-Ok.finding start _ _ c.args.tally.now c.add.new.self told c.in-Ok.ensures.file c.in-Ok-write_line.ensures.0 c.add.ensures in
    IfOk-weaker c.flush.result _ _ (λ done flushed. told-kept c.args.plan contents _ start _ _ c.add.new.self more c.flush.ensures.same) c.flush.ensures.flushed

pub returns-clause-err : goal.returns-clause-err
returns-clause-err g c = λ names start list told.
    let contents = g.S.FileSystem.content c.args.store.now in
    let more = told-more c.args.plan contents names c.args.name.now c.in-Ok.finding start _ _ c.args.tally.now c.add.new.self told c.in-Ok.ensures.file c.in-Ok-write_line.ensures.0 c.add.ensures in
    let kept = told-kept c.args.plan contents _ start _ _ c.add.new.self more c.flush.ensures.same in
    untold-at-flush c.args.plan contents list _ start _ _ c.flush.result c.flush.ensures.failed c.flush.ensures.err (cut-at-flush c.args.plan contents _ start _ c.add.new.self kept)
