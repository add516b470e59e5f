-- The current hunk judges the site.
use Rattle.std.proofs.Common.{sym, subst, arith}
use Rattle.hunk_loader.specs.ImageBuilder.{NamesHunks, state_of}
use Rattle.hunk_loader.proofs.ImageBuilderHunkLemmas.{TakesEvent-site}
use Rattle.hunk_loader.proofs.KeptMemoryLemmas.{IsBounded-takes}
use Rattle.hunk_loader.proofs.TargetsLemmas.{All-site}
use Rattle.hunk_loader.proofs.image_builder.ImageBuilder.add_site.Goals as goal

pub invariant_of-self-2 : goal.invariant_of-self-2
invariant_of-self-2 g c =
    let e = c.add_site.ensures in
    (IsBounded-takes _ _ _ _ (TakesEvent-site (state_of c.self.inside) _ _ _ _ _ c.in-Some.is e.adds e.refused e.apart e.holds e.judges) c.self.invariant.0, All-site _ _ _ _ _ _ (omega arith) e.adds e.refused (subst (NamesHunks _) c.in-Some.is c.self.invariant.1))

pub returns : goal.returns
returns g c = let e = c.add_site.ensures in rw (sym c.self.view_is) (TakesEvent-site (state_of c.self.inside) _ _ _ _ _ c.in-Some.is e.adds e.refused e.apart e.holds e.judges)
