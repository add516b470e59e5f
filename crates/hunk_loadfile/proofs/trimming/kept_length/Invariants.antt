-- The end so far, and that of the remaining sites.
use Rattle.std.proofs.Common.{◌≡◌, ◌≤◌, length, max}
use Rattle.hunk_loadfile.specs.Trimming.{is_kept, kept_end}
use Rattle.hunk_loadfile.proofs.TrimmingLemmas.{sites_end}
use Rattle.hunk_loadfile.proofs.trimming.kept_length.Given as goal

abbrev pub invariant-loop-offset : goal.invariant-loop-offset
invariant-loop-offset g l = record {
  can_next : (goal.iterator-loop-offset g).can_next l.offset-iterator;
  is_finite : (goal.iterator-loop-offset g).is_finite l.offset-iterator;
  inside : l.end ≤ length l.content;
  ends : max l.end (sites_end l.offset-iterator (length l.content)) ≡ kept_end (is_kept l.content l.sites.entries) (length l.content);
}
