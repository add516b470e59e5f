-- The remaining sites of both decide.
use Rattle.std.proofs.Common.{◌≡◌}
use Rattle.hunk_loadfile.proofs.DifferenceLemmas.{unlike_site}
use Rattle.hunk_loadfile.proofs.difference.first_site.Given as goal

abbrev pub invariant-loop-offset : goal.invariant-loop-offset
invariant-loop-offset g l = record {
  can_next : (goal.iterator-loop-offset g).can_next l.offset-iterator;
  is_finite : (goal.iterator-loop-offset g).is_finite l.offset-iterator;
  rest : unlike_site l.offset-iterator l.others ≡ unlike_site l.first.entries l.second.entries;
}
