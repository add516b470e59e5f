use Rattle.std.proofs.Common.{◌≡◌, ◌+◌, ◌≤◌, false, is_ok, ap, arith}
use Rattle.hunk_base.specs.Pages.{all_sites}
use Rattle.hunk_base.proofs.PageLemmas.{StandFrom-added}
use Rattle.hunk_base.proofs.SitesLemmas.{target_at-added}
use Rattle.hunk_base.proofs.sites.Sites.try_add.Goals as goal

pub invariant_of-self : goal.invariant_of-self
invariant_of-self g c = (
  StandFrom-added (is_ok c.add.result) c.self.inside.limit c.args.offset c.args.target (all_sites c.self.inside.pages.items) (all_sites c.add.new.pages.items)
      c.self.invariant.0 (omega arith)
      (λ done meets. let refused : is_ok c.add.result ≡ false = ap is_ok (c.add.ensures.overlap.1 meets) in absurd cc)
      c.add.ensures.added,
  c.add.ensures.in_pages,
  c.self.invariant.2,
)

pub returns-clause-overlap : goal.returns-clause-overlap
returns-clause-overlap g c =
    let inside : c.args.offset + 4 ≤ c.self.inside.limit = omega arith in
    rw (← c.self.view_is) (λ told. (inside, c.add.ensures.overlap.0 told), λ both. c.add.ensures.overlap.1 both.1)

pub returns-clause-targets : goal.returns-clause-targets
returns-clause-targets g c =
    rw (← c.self.view_is)
    (target_at-added c.add.result c.args.offset c.args.target (all_sites c.self.inside.pages.items) (all_sites c.add.new.pages.items) c.add.ensures.added)
