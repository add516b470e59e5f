use Rattle.std.proofs.Common.{◌≤◌, ℕ, List, ap, sym, subst, length, ◌∙◌}
use Rattle.std.specs.List.{All}
use Rattle.std.specs.Map.{values_of}
use Rattle.hunk_base.specs.Sites.{AreApart, SiteMap}
use Rattle.hunk_objects.specs.OpenHunk.{UnitHunkSoFar}
use Rattle.hunk_base.specs.Name.{most_name}
use Rattle.hunk_objects.specs.UnitHunk.{IsAmong, content_bytes}
use Rattle.hunk_objects.specs.declared.unit_hunk.Adds.{Adds}
use Rattle.hunk_objects.proofs.open_hunk.OpenHunk.close.Goals as goal

pub invariant_of-result : goal.invariant_of-result
invariant_of-result g c =
    let parts = c.into_parts-content.ensures in
    let held = c.self.invariant in
    let whole = ap (λ (h : UnitHunkSoFar g.row.A.Denot). length h.partial.content) c.self.view_is ∙ c.requires.whole ∙ ap (λ (h : UnitHunkSoFar g.row.A.Denot). h.partial.sites.limit) (sym c.self.view_is) in
    let limit = ap (λ (h : UnitHunkSoFar g.row.A.Denot). h.partial.sites.limit) c.self.view_is ∙ c.requires.limit ∙ ap (λ (h : UnitHunkSoFar g.row.A.Denot). content_bytes h.kind h.size) (sym c.self.view_is) in
    let apart = subst (λ (h : UnitHunkSoFar g.row.A.Denot). AreApart h.partial.sites) (sym c.self.view_is) c.requires.apart in
    record {
      whole = ap length parts.content ∙ whole ∙ limit;
      limit = ap (λ (s : SiteMap Adds). s.limit) parts.sites ∙ sym whole ∙ ap length (sym parts.content);
      apart = subst AreApart (sym parts.sites) apart;
      adds = subst (λ (s : SiteMap Adds). All (IsAmong (length c.self.inside.references.items)) (values_of s.entries)) (sym parts.sites) held.0;
      defined = held.1;
      names = subst (λ (xs : List (List ℕ × ℕ)). All (λ symbol. length symbol.0 ≤ most_name) xs) (sym c.into_lists-symbols.ensures.symbols) held.2;
    }

pub returns-clause-valid : goal.returns-clause-valid
returns-clause-valid g c = invariant_of-result g c
