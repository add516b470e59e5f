-- Hunks of a load file that are refused carry too much.
use Rattle.std.proofs.Common.{◌∙◌, ap, refl, sym}
use Rattle.hunk_loadfile.specs.Rules.{build_fault}
use Rattle.hunk_tool.proofs.AcceptedLemmas.{refused-large}
use Rattle.hunk_tool.proofs.copy.fitting.Goals as goal

pub returns-clause-refused : goal.returns-clause-refused
returns-clause-refused g c =
    (refl, refused-large c.args.file c.in-Err.field-0.fault c.into_hunks.ensures.valid (ap build_fault (sym c.into_hunks.ensures.value) ∙ c.in-Err.ensures.refused.0))
