-- The line, which is short.
use Rattle.std.proofs.Common.{[], rules, arith}
use Rattle.hunk_tool.proofs.CheckLemmas.{object_line-fits}
use Rattle.hunk_tool.proofs.check.write_object.Goals as goal

pub returns-clause-wrote : goal.returns-clause-wrote
returns-clause-wrote g c =
    let fits = object_line-fits c.args.units c.args.hunks (omega (arith, c.ranges.units.fits)) (omega (arith, c.ranges.hunks.fits)) in
    let wrote = c.finish.ensures.counted c.args.writer.now _ fits (c.write_object_line.ensures.adds _ [] c.new-text.ensures.empty) in
    search (rules, wrote)
