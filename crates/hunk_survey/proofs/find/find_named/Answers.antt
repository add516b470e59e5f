-- It is found of what the reader of the file has.
use Rattle.std.proofs.lemmas.Result.{IfOk-weaker}
use Rattle.hunk_survey.specs.Finding.{IsOfFile}
use Rattle.hunk_survey.proofs.NamedLemmas.{IsOfFile-read}
use Rattle.hunk_survey.proofs.find.find_named.Goals as goal

pub returns-in-Ok : goal.returns-in-Ok
returns-in-Ok g c =
    let content = g.S.FileSystem.content c.args.system.now c.args.name.now in
    IfOk-weaker c.survey_file.result _ (IsOfFile c.args.options content)
    (λ finding found. IsOfFile-read c.args.options content finding _ _ _ _
    (record { from_start = c.in-Ok.ensures.there; to_end = g.met.S.FileSystem.at_end _; may_fail = g.met.S.FileSystem.may_fail _ _ _ }) found) c.survey_file.ensures
