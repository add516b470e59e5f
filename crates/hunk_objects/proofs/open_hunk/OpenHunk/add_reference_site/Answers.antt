use Rattle.std.proofs.Common.{◌<◌, sym, subst, length, arith}
use Rattle.hunk_words.specs.PartialHunk.{HoldsSites}
use Rattle.hunk_objects.specs.OpenHunk.{UnitHunkSoFar}
use Rattle.hunk_objects.proofs.OpenHunkLemmas.{HasSites-site}
use Rattle.hunk_objects.specs.declared.unit_hunk.Adds.TheVariants as adds
use Rattle.hunk_objects.proofs.open_hunk.OpenHunk.add_reference_site.Goals as goal

pub invariant_of-self : goal.invariant_of-self
invariant_of-self g c =
    let e = c.add_site.ensures in
    let held = c.self.invariant in
    let count = length c.self.inside.references.items in
    let among : c.in-Ok.last < count = omega (arith, c.in-Ok.ensures.1, c.in-Some.ensures.0, c.in-Some.ensures.1, c.len.ensures, c.self.inside.references.ok.0) in
    let has = HasSites-site count c.self.inside.partial c.add_site.new.self c.args.offset (adds.Reference c.in-Ok.last) c.add_site.result among e.adds e.refused held.0 in
    (has, held.1, held.2)

pub returns-in-Ok-clause-judges : goal.returns-in-Ok-clause-judges
returns-in-Ok-clause-judges g c = λ limit seen holds.
    c.add_site.ensures.judges limit seen (subst (λ (h : UnitHunkSoFar g.row.A.Denot). HoldsSites limit seen h.partial) (sym c.self.view_is) holds)
