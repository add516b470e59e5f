-- It is found of the file with that name, or there is no such name.
use Rattle.std.proofs.Common.{◌∙◌, ap, subst, sym, IfOk}
use Rattle.std.proofs.lemmas.Bool.{true≢false}
use Rattle.std.proofs.lemmas.Str.{is_utf8-from_IsUtf8}
use Rattle.hunk_tool.specs.FileSystem.{MayBeMissing}
use Rattle.hunk_survey.specs.Finding.{IsOfFile}
use Rattle.hunk_survey.proofs.NamedLemmas.{content-named, content-unnamed}
use Rattle.hunk_survey.proofs.find.find_file.Goals as goal

pub returns-in_default-clause-file : goal.returns-in_default-clause-file
returns-in_default-clause-file g c =
    subst MayBeMissing (content-unnamed (g.S.FileSystem.content c.args.system.now) c.args.name.now c.in_default.ensures.cases.0) tt

pub returns-clause-file : goal.returns-clause-file
returns-clause-file g c =
    let contents = g.S.FileSystem.content c.args.system.now in
    let named = c.in-Ok.ensures.cases in
    subst (λ content. IfOk c.find_named.result (IsOfFile c.args.options content)) (ap contents named.0 ∙ content-named contents c.args.name.now named.1) c.find_named.ensures

pub returns-clause-no_name : goal.returns-clause-no_name
returns-clause-no_name g c = λ no. absurd (true≢false (sym (is_utf8-from_IsUtf8 c.args.name.now c.in-Ok.ensures.cases.1) ∙ no))
