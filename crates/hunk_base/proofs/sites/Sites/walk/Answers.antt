use Rattle.std.proofs.Common.{◌<◌, ◌^◌, length, arith}
use Rattle.hunk_base.specs.Pages.{all_sites}
use Rattle.hunk_base.proofs.SitesLemmas.{AreApart-few, walk-shows_in_order, walk-shows_values_in_order}
use Rattle.hunk_base.proofs.sites.Sites.walk.Goals as goal

pub returns-clause-runs : goal.returns-clause-runs
returns-clause-runs g c = walk-shows_in_order

pub returns-clause-targets_run : goal.returns-clause-targets_run
returns-clause-targets_run g c = walk-shows_values_in_order

pub invariant_of-result : goal.invariant_of-result
invariant_of-result g c =
    let sites = all_sites c.self.inside.pages.items in
    let few = AreApart-few (record { limit = c.self.inside.limit; entries = sites }) c.self.invariant.0 in
    let small : length sites < 2 ^ 64 = omega (arith, few, c.self.invariant.2) in
    rw (c.iter.ensures.rest, c.empty.ensures, c.iter-2.ensures.rest, c.deref.ensures.value) small
