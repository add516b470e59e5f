-- The offsets of the sites so far were put, and the other sites are left.
use Rattle.std.proofs.Common.{◌≡◌, ◌≤◌, ◌-◌, ℕ, drop, map, take}
use Rattle.hunk_base.specs.Text.{Puts}
use Rattle.hunk_loadfile.specs.NumberWidth.{bytes_in}
use Rattle.hunk_loadfile.proofs.one_target_writer.write_next_offsets.Given as goal

abbrev pub invariant-chunks : goal.invariant-chunks
invariant-chunks g l = record {
  within : l.left ≤ l.count;
  rest : l.walk ≡ drop (l.count - l.left) l.fn.walk;
  puts : Puts g.W.Sink.taken g.W.Sink.failed l.fn.text l.text (bytes_in l.width (map (λ (site : ℕ × ℕ). site.0) (take (l.count - l.left) l.fn.walk)));
}

abbrev pub decreases-chunks : goal.decreases-chunks
decreases-chunks g l = l.left
