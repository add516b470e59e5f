use Rattle.std.proofs.Common.{sym, subst, length}
use Rattle.hunk_words.specs.PartialHunk.{HoldsSites}
use Rattle.hunk_objects.specs.OpenHunk.{UnitHunkSoFar}
use Rattle.hunk_objects.proofs.OpenHunkLemmas.{HasSites-site}
use Rattle.hunk_objects.specs.declared.unit_hunk.Adds.TheVariants as adds
use Rattle.hunk_objects.proofs.open_hunk.OpenHunk.add_site.Goals as goal

pub invariant_of-self : goal.invariant_of-self
invariant_of-self g c =
    let e = c.add_site.ensures in
    let held = c.self.invariant in
    let has = HasSites-site (length c.self.inside.references.items) c.self.inside.partial c.add_site.new.self c.args.offset (adds.Hunk c.args.hunk) c.add_site.result tt e.adds e.refused held.0 in
    (has, held.1, held.2)

pub returns-clause-judges : goal.returns-clause-judges
returns-clause-judges g c = λ limit seen holds.
    c.add_site.ensures.judges limit seen (subst (λ (h : UnitHunkSoFar g.row.A.Denot). HoldsSites limit seen h.partial) (sym c.self.view_is) holds)
