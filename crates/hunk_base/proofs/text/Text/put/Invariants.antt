-- What was taken of the piece so far was added.
use Rattle.std.proofs.Common.{◌≤◌, ◌-◌, ◌+◌, length, take, cond}
use Rattle.hunk_base.specs.Text.{Puts}
use Rattle.hunk_base.proofs.text.Text.put.Given as goal

abbrev pub invariant-loop-done : goal.invariant-loop-done
invariant-loop-done g l = record {
  inside : l.done ≤ length l.piece;
  puts : Puts g.W.Sink.taken g.W.Sink.failed l.fn.self l.self (take l.done l.piece);
}

abbrev pub decreases-loop-done : goal.decreases-loop-done
decreases-loop-done g l = length l.piece - l.done + cond l.self.stopped 0 1
