use Rattle.std.proofs.Common.{◌≡◌, ◌∙◌, None, Some, ap, codes, sym}
use Rattle.std.proofs.lemmas.Result.{IfOk-weaker}
use Rattle.clap.specs.Takes.{is_given}
use Rattle.clap.specs.Walk.{texts}
use Rattle.clap.specs.Words.{first_of, found_of, rows_of}
use Rattle.hunk_store.specs.FileList.{given_list}
use Rattle.hunk_commands.specs.Request.{given_text}
use Rattle.amihunk.specs.Call.{meaning}
use Rattle.amihunk.specs.CommandLine.{link_call, options_in, value_in, files_in, has_some, list_by, list_in}
use Rattle.amihunk.proofs.RequestLemmas.{conflict_found, same_link}
use Rattle.amihunk.proofs.command_line.link_request.Goals as goal

pub returns-in-Ok : goal.returns-in-Ok
returns-in-Ok c =
    let rows = rows_of (found_of c.args.values.now) in
    let some : c.has_files.result ≡ has_some (files_in rows) = c.has_files.ensures ∙ ap (λ fs. has_some (texts fs)) c.as_slice.ensures.value ∙ ap has_some c.in_ok-files.ensures in
    let list : list_in rows ≡ Some (given_list c.in-Ok.list) = ap (list_by (first_of (codes "files-from") rows) (is_given (codes "lines") rows)) (sym some) ∙ c.in-Ok.ensures in
    ap (λ l. Some (link_call (value_in (codes "out") rows) (first_of (codes "map") rows) (options_in rows) (is_given (codes "globals") rows) (is_given (codes "explain") rows) (files_in rows) l)) list
    ∙ ap Some (same_link (value_in (codes "out") rows) c.value_of.result.now (first_of (codes "map") rows) (given_text c.optional_value.result) (options_in rows) c.options_of.result (is_given (codes "globals") rows) c.is_set.result (is_given (codes "explain") rows) c.is_set-in-Ok.result
    (files_in rows) (texts c.in_ok-files.files.items) (given_list c.in-Ok.list) c.value_of.ensures c.optional_value.ensures c.options_of.ensures c.is_set.ensures c.is_set-in-Ok.ensures c.in_ok-files.ensures)

pub returns : goal.returns
returns c =
    let rows = rows_of (found_of c.args.values.now) in
    let some : c.has_files.result ≡ has_some (files_in rows) = c.has_files.ensures ∙ ap (λ fs. has_some (texts fs)) c.as_slice.ensures.value ∙ ap has_some c.in_ok-files.ensures in
    let none : list_in rows ≡ None = ap (list_by (first_of (codes "files-from") rows) (is_given (codes "lines") rows)) (sym some) ∙ c.in-Err.ensures in
    IfOk-weaker c.refuse.result _ _ (λ refused answers. conflict_found c.in-Err.conflict _ (meaning refused) (ap (λ list. Some (link_call (value_in (codes "out") rows) (first_of (codes "map") rows) (options_in rows) (is_given (codes "globals") rows) (is_given (codes "explain") rows) (files_in rows) list)) none) answers) c.refuse.ensures
