-- The sites so far are in the list.
use Rattle.amihunk_c.specs.Facts.{unit_site}
use Rattle.amihunk_c.proofs.SiteListsLemmas.{Told}
use Rattle.amihunk_c.proofs.site_lists.unit_hunk_sites.Given as goal

abbrev pub invariant-loop-offset : goal.invariant-loop-offset
invariant-loop-offset l = record {
  can_next : goal.iterator-loop-offset.can_next l.offset-iterator;
  is_finite : goal.iterator-loop-offset.is_finite l.offset-iterator;
  told : Told unit_site l.sites.items l.offset-iterator l.hunk.sites.entries;
}
