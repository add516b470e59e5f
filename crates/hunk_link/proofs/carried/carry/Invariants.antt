-- The remaining sites add what is known, and all sites are carried once they are.
use Rattle.std.proofs.Common.{length}
use Rattle.std.specs.List.{All}
use Rattle.hunk_link.specs.Addend.{addend_of}
use Rattle.hunk_link.specs.Carried.{IsKnown}
use Rattle.hunk_link.proofs.CarryLemmas.{Carrying}
use Rattle.hunk_link.proofs.carried.carry.Given as goal

abbrev pub invariant-loop-offset : goal.invariant-loop-offset
invariant-loop-offset g l = record {
  can_next : (goal.iterator-loop-offset g).can_next l.offset-iterator;
  is_finite : (goal.iterator-loop-offset g).is_finite l.offset-iterator;
  known : All (λ site. IsKnown l.first (length l.references) site.1) l.offset-iterator;
  carrying : Carrying (addend_of l.first l.references) l.fn.content l.fn.sites l.fn.left.entries l.fn.left.limit l.content l.offset-iterator l.left;
}
