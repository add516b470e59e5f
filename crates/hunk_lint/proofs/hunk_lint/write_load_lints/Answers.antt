-- One more hunk.
use Rattle.std.proofs.Common.{ap, arith}
use Rattle.std.specs.List.{flat_map}
use Rattle.hunk_base.proofs.TextLemmas.{Puts-as, Puts-numbered, numbered-all}
use Rattle.hunk_lint.specs.HunkLint.{load_hunk_lints}
use Rattle.hunk_lint.proofs.hunk_lint.write_load_lints.Goals as goal

pub loop-number-preserved : goal.loop-number-preserved
loop-number-preserved g c =
    Puts-numbered g.W.Sink.taken g.W.Sink.failed (load_hunk_lints c.args.hunks.now) c.args.hunks.now c.loop-number.number c.index-hunks-number.result c.loop-number-test.true c.index-hunks-number.is c.loop-number.invariant c.write_load_hunk.ensures

pub returns : goal.returns
returns g c = Puts-as (ap (flat_map (load_hunk_lints c.args.hunks.now)) (numbered-all c.args.hunks.now c.loop-number.number (omega arith))) c.loop-number.invariant
