-- A word of content is kept, and others are ignored.
use Rattle.std.proofs.Common.{rules, sym, refl, subst}
use Rattle.hunk_loader.specs.ImageBuilder.{state_of}
use Rattle.hunk_loader.proofs.ImageBuilderLemmas.{PassesWords, TakesEvent-word-unplaced, TakesEvent-word-past, TakesEvent-word}
use Rattle.hunk_loader.proofs.KeptMemoryLemmas.{IsBounded-takes}
use Rattle.hunk_loader.proofs.TargetsLemmas.{NamesHunks-taken}
use Rattle.hunk_loader.proofs.image_builder.ImageBuilder.add_word.Goals as goal

pub returns-in_default : goal.returns-in_default
returns-in_default g c = rw (sym c.self.view_is) (TakesEvent-word-unplaced _ _ _ c.in_default.not-Placed refl)

pub returns-in_default-current : goal.returns-in_default-current
returns-in_default-current g c = rw (sym c.self.view_is) (TakesEvent-word-past _ _ _ (subst PassesWords (sym c.in_default-current.is) tt) refl)

pub invariant_of-self-2 : goal.invariant_of-self-2
invariant_of-self-2 g c = (
  IsBounded-takes _ _ _ _ (TakesEvent-word (state_of c.self.inside) c.args.word _ _ _ refl c.in-Placed.is c.in-Some.is (search rules) c.add_word.ensures.fits) c.self.invariant.0,
  NamesHunks-taken _ _ _ _ _ c.add_word.result c.in-Some.is refl c.add_word.ensures.adds c.add_word.ensures.refused c.self.invariant.1,
)

pub returns : goal.returns
returns g c = rw (sym c.self.view_is) (TakesEvent-word (state_of c.self.inside) _ _ _ _ refl c.in-Placed.is c.in-Some.is (search rules) c.add_word.ensures.fits)
