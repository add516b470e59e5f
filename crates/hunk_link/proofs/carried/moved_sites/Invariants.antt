-- The sites of the remaining pages add what is known, and all sites are carried once they are.
use Rattle.std.proofs.Common.{◌*◌, [], length}
use Rattle.std.specs.List.{All}
use Rattle.hunk_base.specs.Pages.{all_sites}
use Rattle.hunk_link.specs.Addend.{addend_of}
use Rattle.hunk_link.specs.Carried.{IsKnown}
use Rattle.hunk_link.proofs.CarryLemmas.{Carrying}
use Rattle.hunk_link.proofs.carried.moved_sites.Given as goal

abbrev pub invariant-loop-page : goal.invariant-loop-page
invariant-loop-page g l = record {
  can_next : (goal.iterator-loop-page g).can_next l.page-iterator;
  is_finite : (goal.iterator-loop-page g).is_finite l.page-iterator;
  known : All (λ site. IsKnown l.first (length l.references) site.1) (all_sites l.page-iterator.rest.items);
  carrying : Carrying (addend_of l.first l.references) l.fn.content l.fn.sites.entries [] (4 * l.size) l.content (all_sites l.page-iterator.rest.items) l.left;
}
