use Rattle.hunk_base.specs.Pages.{all_sites}
use Rattle.hunk_base.proofs.SitesLemmas.{AreApart-few}
use Rattle.hunk_base.proofs.sites.Sites.limit.Goals as goal

pub returns-clause-few : goal.returns-clause-few
returns-clause-few g c =
    rw (← c.self.view_is)
    (AreApart-few (record { limit = c.self.inside.limit; entries = all_sites c.self.inside.pages.items }) c.self.invariant.0)
