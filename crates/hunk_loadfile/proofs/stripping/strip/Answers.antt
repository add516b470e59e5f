use Rattle.std.proofs.Common.{◌∙◌, arith}
use Rattle.std.proofs.lemmas.Grind.{common_steps}
use Rattle.hunk_loadfile.specs.Stripping.{stripped_hunk}
use Rattle.hunk_loadfile.proofs.MappedLemmas.{mapped_to-all, mapped_to-more}
use Rattle.hunk_loadfile.proofs.stripping.strip.Goals as goal

pub loop-hunk-preserved : goal.loop-hunk-preserved
loop-hunk-preserved g c =
    mapped_to-more stripped_hunk c.args.hunks.now c.loop-hunk.hunks c.loop-hunk.hunk-index c.hunk-item.result c.strip_hunk.new.hunk c.loop-hunk-test.true c.loop-hunk.invariant c.strip_hunk.ensures

pub returns : goal.returns
returns g c = c.loop-hunk.invariant ∙ mapped_to-all stripped_hunk c.args.hunks.now c.loop-hunk.hunk-index c.loop-hunk-test.false

-- `grind` at once: `search`, which Rattle tries before it, is slow here
pub offset_bounds-hunks-hunk-index : goal.offset_bounds-hunks-hunk-index
offset_bounds-hunks-hunk-index g c = grind (arith, common_steps)
