-- No site yet, and one more.
use Rattle.std.proofs.Common.{◌∙◌, [], ap}
use Rattle.hunk_base.specs.Sites.{SiteMap}
use Rattle.hunk_objects.specs.declared.unit_hunk.Adds.{Adds}
use Rattle.amihunk_c.specs.Facts.{unit_site}
use Rattle.amihunk_c.proofs.SiteListsLemmas.{Told-more}
use Rattle.amihunk_c.proofs.site_lists.unit_hunk_sites.Goals as goal

pub loop-offset-init : goal.loop-offset-init
loop-offset-init c = record {
  can_next = tt;
  is_finite = tt;
  told = record { done = []; parts = c.into_iter-offset-iterator.ensures.into_iter_gives ∙ c.walk-offset-items.ensures.rest ∙ ap (λ (sites : SiteMap Adds). sites.entries) c.sites.ensures.value; told = c.new-sites.ensures.items };
}

pub loop-offset-preserved : goal.loop-offset-preserved
loop-offset-preserved c = record {
  can_next = tt;
  is_finite = tt;
  told = rw c.in_ok-push.ensures.items
      (Told-more unit_site c.loop-offset.sites.items c.loop-offset.offset-iterator c.args.hunk.now.sites.entries c.next.new.self c.of_unit.result (c.in-Some.offset, c.in-Some.adds.now)
      c.loop-offset.invariant.told c.in-Some.ensures.steps c.of_unit.ensures);
}
