-- The lines about the hunk whose base is added, if one is.
use Rattle.std.proofs.Common.{ap, length}
use Rattle.hunk_base.proofs.TextLemmas.{Puts-as, Puts-nothing, Puts-then}
use Rattle.hunk_lint.specs.HunkLintLines.{absent_lints, past_lints}
use Rattle.hunk_lint.proofs.hunk_lint.write_target.Goals as goal

pub returns-in-Hunk : goal.returns-in-Hunk
returns-in-Hunk g c =
    let past = Puts-as (ap (past_lints c.args.place c.args.content.now c.args.site c.in-Hunk.target) c.unit_size.ensures) c.write_past.ensures in
    let absent = absent_lints c.args.place c.args.site c.in-Hunk.target (length c.args.hunks.now) in
    rw c.in-Hunk.is (Puts-then g.W.Sink.taken g.W.Sink.failed {rest = absent} past c.write_absent.ensures)

pub returns-in-Reference : goal.returns-in-Reference
returns-in-Reference g c = rw c.in-Reference.is (Puts-nothing g.W.Sink.taken g.W.Sink.failed c.args.text.now)
