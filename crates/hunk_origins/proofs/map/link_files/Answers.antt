-- Each exit, and the load file of the units.
use Rattle.std.proofs.Common.{◌≡◌, ◌∙◌, List, ap, ap₂, length, refl, sym, arith, rules}
use Rattle.std.proofs.lemmas.Grind.{common_steps}
use Rattle.std.proofs.lemmas.Result.{err_from_is_err_and}
use Rattle.hunk_loadfile.specs.LoadHunk.{FileHunk}
use Rattle.hunk_objects.specs.ProgramUnit.{ObjectUnit}
use Rattle.hunk_link.specs.Carried.{carried}
use Rattle.hunk_tool.specs.LinkedUnits.{linked_units}
use Rattle.hunk_origins.specs.Map.{LinkFiles}
use Rattle.hunk_tool.specs.ObjectFiles.{AreFileUnits, units_of}
use Rattle.hunk_tool.proofs.InputsLemmas.{HaveRead-weaker}
use Rattle.hunk_tool.proofs.LinkLemmas.{DoLink-as, IsUnlinked-link, IsUnlinked-read}
use Rattle.hunk_tool.proofs.LinkedUnitsLemmas.{units_of-linked}
use Rattle.hunk_origins.proofs.MapLemmas.{length-origins-carried}
use Rattle.hunk_tool.proofs.ObjectFilesLemmas.{AreObjects-units, HaveRead-objects}
use Rattle.hunk_origins.proofs.map.link_files.Goals as goal

pub returns-in_err-file-clause-unlinked : goal.returns-in_err-file-clause-unlinked
returns-in_err-file-clause-unlinked g c =
    let p = err_from_is_err_and c.from_residual-in_err-file.result c.from_residual-in_err-file.ensures.1 in
    let units = units_of c.in_ok-read.read in
    let linked = c.units.ensures ∙ ap units_of c.in_ok-files.ensures ∙ units_of-linked c.args.globals c.args.strip c.in_ok-read.read in
    let read = HaveRead-objects _ c.in_ok-read.read units refl c.in_ok-read.ensures.read in
    rw (p.1, p.2) (IsUnlinked-link c.args.globals c.args.strip _ units c.units.result.now c.strips-strip.result c.in_err-file.field-0.0 linked c.strips-strip.ensures read c.in_err-file.ensures.refused)

pub returns-clause-linked : goal.returns-clause-linked
returns-clause-linked g c =
    let read = c.in_ok-read.read in
    let linked : c.units.result.now ≡ linked_units c.args.globals c.args.strip (units_of read) =
    c.units.ensures ∙ ap units_of c.in_ok-files.ensures ∙ units_of-linked c.args.globals c.args.strip read in
    HaveRead-weaker _ (AreFileUnits read) (LinkFiles c.args.globals c.args.strip c.in_ok-files.files c.in_ok-file.file)
    (λ all are. record {
      units = read;
      are = are;
      linked_are = c.in_ok-files.ensures;
      link = DoLink-as c.args.globals c.args.strip (units_of read) c.units.result.now c.strips-strip.result linked c.strips-strip.ensures all (AreObjects-units 0 all read are) c.in_ok-file.ensures.typed c.in_ok-file.ensures.linkable;
      file_is = c.in_ok-file.ensures.file ∙ ap₂ carried linked c.strips-strip.ensures;
    }) c.in_ok-read.ensures.read

pub returns-clause-matched : goal.returns-clause-matched
returns-clause-matched g c =
    let carries = c.in_ok-file.ensures.file ∙ ap (λ (us : List ObjectUnit). carried us c.strips-strip.result) c.units.ensures in
    length-origins-carried c.in_ok-files.files c.strips-strip.result ∙ sym (ap (λ (hunks : List FileHunk). length hunks) carries)

-- `grind` at once: `search`, which Rattle tries before it, is slow here
pub returns-clause-short : goal.returns-clause-short
returns-clause-short g c = grind (rules, arith, common_steps)
