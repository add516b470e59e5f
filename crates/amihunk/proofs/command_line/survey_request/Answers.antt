use Rattle.std.proofs.Common.{◌≡◌, ◌∙◌, None, Some, ap, codes, sym}
use Rattle.std.proofs.lemmas.Result.{IfOk-weaker}
use Rattle.clap.specs.Takes.{is_given}
use Rattle.clap.specs.Walk.{texts}
use Rattle.clap.specs.Words.{first_of, found_of, rows_of}
use Rattle.hunk_store.specs.FileList.{given_list}
use Rattle.amihunk.specs.Call.{meaning}
use Rattle.amihunk.specs.CommandLine.{survey_call, survey_options_in, files_in, has_some, list_by, list_in}
use Rattle.amihunk.proofs.RequestLemmas.{conflict_found, same_survey}
use Rattle.amihunk.proofs.command_line.survey_request.Goals as goal

pub returns-in-Ok : goal.returns-in-Ok
returns-in-Ok c =
    let rows = rows_of (found_of c.args.values.now) in
    let some : c.has_files.result ≡ has_some (files_in rows) = c.has_files.ensures ∙ ap (λ fs. has_some (texts fs)) c.as_slice-names.ensures.value ∙ ap has_some c.in_ok-files.ensures in
    let list : list_in rows ≡ Some (given_list c.in-Ok.list) = ap (list_by (first_of (codes "files-from") rows) (is_given (codes "lines") rows)) (sym some) ∙ c.in-Ok.ensures in
    let files : texts c.in_ok-bytes.bytes.items ≡ files_in rows = c.in_ok-bytes.ensures ∙ ap texts c.as_slice-names.ensures.value ∙ c.in_ok-files.ensures in
    ap (λ l. Some (survey_call (survey_options_in rows) (files_in rows) l)) list
    ∙ ap Some (same_survey (survey_options_in rows) c.survey_options_of.result (files_in rows) (texts c.in_ok-bytes.bytes.items) (given_list c.in-Ok.list) c.survey_options_of.ensures files)

pub returns : goal.returns
returns c =
    let rows = rows_of (found_of c.args.values.now) in
    let some : c.has_files.result ≡ has_some (files_in rows) = c.has_files.ensures ∙ ap (λ fs. has_some (texts fs)) c.as_slice-names.ensures.value ∙ ap has_some c.in_ok-files.ensures in
    let none : list_in rows ≡ None = ap (list_by (first_of (codes "files-from") rows) (is_given (codes "lines") rows)) (sym some) ∙ c.in-Err.ensures in
    IfOk-weaker c.refuse.result _ _ (λ refused answers. conflict_found c.in-Err.conflict _ (meaning refused) (ap (λ list. Some (survey_call (survey_options_in rows) (files_in rows) list)) none) answers) c.refuse.ensures
