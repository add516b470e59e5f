-- The sites before the remaining ones name hunks of their own unit.
use Rattle.hunk_link.specs.OwnHunks.{AllNameOwnHunks, sites_in}
use Rattle.hunk_link.specs.Ranks.{items_of}
use Rattle.hunk_link.proofs.FirstToBreakLemmas.{IsObeyedBefore}
use Rattle.hunk_link.proofs.own_hunks.foreign_target.Given as goal

abbrev pub invariant-loop-adds : goal.invariant-loop-adds
invariant-loop-adds g l = record {
  can_next : (goal.iterator-loop-adds g).can_next l.adds-iterator;
  is_finite : (goal.iterator-loop-adds g).is_finite l.adds-iterator;
  own : IsObeyedBefore AllNameOwnHunks (items_of (λ _. l.adds-iterator) l.ranked) (items_of sites_in l.ranked);
}
