-- Each exit, and the load file of the units.
use Rattle.std.proofs.Common.{arith, rules}
use Rattle.std.proofs.lemmas.Grind.{common_steps}
use Rattle.std.proofs.lemmas.Result.{err_from_is_err_and}
use Rattle.hunk_tool.proofs.LinkLemmas.{HaveRead-link_to, IsUnlinked-link, IsUnlinked-read}
use Rattle.hunk_tool.proofs.ObjectFilesLemmas.{HaveRead-objects}
use Rattle.hunk_tool.proofs.link.link_inputs.Goals as goal

pub returns-in_err-files-clause-unlinked : goal.returns-in_err-files-clause-unlinked
returns-in_err-files-clause-unlinked g c =
    let p = err_from_is_err_and c.from_residual.result c.from_residual.ensures.1 in
    rw (p.1, p.2) (IsUnlinked-read c.args.globals c.args.strip _ _ c.in_err-files.ensures.stopped)

pub returns-in_err-link_units_with-clause-unlinked : goal.returns-in_err-link_units_with-clause-unlinked
returns-in_err-link_units_with-clause-unlinked g c =
    let read = HaveRead-objects _ c.in_ok-files.files c.into_units.result.items c.into_units.ensures c.in_ok-files.ensures.read in
    let p = err_from_is_err_and c.from_residual-in_err-link_units_with.result c.from_residual-in_err-link_units_with.ensures.1 in
    rw (p.1, p.2) (IsUnlinked-link c.args.globals c.args.strip _ c.into_units.result.items c.in_ok-units.units.items c.strips-strip.result c.in_err-link_units_with.field-0.0 c.in_ok-units.ensures c.strips-strip.ensures read c.in_err-link_units_with.ensures.refused)

pub returns-clause-linked : goal.returns-clause-linked
returns-clause-linked g c =
    let read = HaveRead-objects _ c.in_ok-files.files c.into_units.result.items c.into_units.ensures c.in_ok-files.ensures.read in
    HaveRead-link_to _ c.args.globals c.args.strip c.into_units.result.items c.in_ok-units.units.items c.strips-strip.result c.in_ok-link_units_with.field-0 c.in_ok-units.ensures c.strips-strip.ensures
    read c.in_ok-link_units_with.ensures.typed c.in_ok-link_units_with.ensures.linkable c.in_ok-link_units_with.ensures.file

-- `grind` at once: `search`, which Rattle tries before it, is slow here
pub returns-clause-short : goal.returns-clause-short
returns-clause-short g c = grind (rules, arith, common_steps)
