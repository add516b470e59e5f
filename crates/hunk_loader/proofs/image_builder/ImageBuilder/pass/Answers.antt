-- It is bounded as after the event of a name.
use Rattle.std.proofs.Common.{◌≡◌, length, rules, subst, sym}
use Rattle.hunk_loader.specs.ImageBuilder.{BuilderState, NamesHunks, passed, state_of}
use Rattle.hunk_loader.proofs.ImageBuilderLemmas.{TakesEvent-passed, passes-name}
use Rattle.hunk_loader.proofs.KeptMemoryLemmas.{IsBounded-takes}
use Rattle.hunk_loader.proofs.TargetsLemmas.{NamesHunks-passed}
use Rattle.hunk_loader.proofs.image_builder.ImageBuilder.pass.Goals as goal

pub invariant_of-self : goal.invariant_of-self
invariant_of-self g c =
    let is : state_of c.match-self.self-inside ≡ record (state_of c.self.inside) { current = passed c.self.inside.current } = search rules in (
      IsBounded-takes _ _ _ _ (TakesEvent-passed _ _ _ passes-name is) c.self.invariant.0,
      subst (λ (m : BuilderState). NamesHunks (length m.sizes) m.current) (sym is) (NamesHunks-passed _ c.self.inside.current c.self.invariant.1),
    )

-- named, so that a mistake is refused without a look for advice
pub returns : goal.returns
returns g c = search rules
