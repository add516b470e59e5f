-- The line of a file of either kind.
use Rattle.std.proofs.Common.{◌∙◌, List, ap, length, sym}
use Rattle.hunk_base.proofs.TextLemmas.{Puts-as}
use Rattle.hunk_loadfile.specs.LoadHunk.{FileHunk}
use Rattle.hunk_objects.specs.ProgramUnit.{ObjectUnit}
use Rattle.hunk_files.specs.FileValue.FileValue.{load_file, object_file}
use Rattle.hunk_text.specs.Listing.{object_line}
use Rattle.hunk_tool.specs.Check.{check_text}
use Rattle.hunk_lint.specs.Linted.{value_of}
use Rattle.hunk_lint.proofs.run.write_kind.Goals as goal

pub returns-in-Object : goal.returns-in-Object
returns-in-Object g c =
    let units = c.as_slice-units in
    let total = ap (object_line (length units.result.now)) c.hunk_total.ensures in
    let line = ap (λ (units : List ObjectUnit). check_text (object_file units)) units.ensures.value in
    Puts-as (total ∙ line ∙ ap (λ file. check_text (value_of file)) (sym c.in-Object.is)) c.write_object_line.ensures

pub returns-in-Load : goal.returns-in-Load
returns-in-Load g c =
    let line = ap (λ (hunks : List FileHunk). check_text (load_file hunks)) c.hunks.ensures.value in
    Puts-as (line ∙ ap (λ file. check_text (value_of file)) (sym c.in-Load.is)) c.write_load_line.ensures
