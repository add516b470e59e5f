-- The bytes of content are kept, and others are ignored.
use Rattle.std.proofs.Common.{◌≡◌, ◌≢◌, ◌⊎◌, Some, inl, inr, sym, refl, subst, ◌∙◌}
use Rattle.hunk_base.specs.Longwords.{longwords}
use Rattle.hunk_base.proofs.LongwordsByteLemmas.{are-bytes}
use Rattle.hunk_loader.specs.ImageBuilder.{BuilderState, TakesRun, state_of}
use Rattle.hunk_loader.specs.declared.places.PlaceFault.{PlaceFault}
use Rattle.hunk_loader.specs.declared.placing.Placing.TheVariants.{Unknown, Placed, Refused}
use Rattle.hunk_loader.proofs.ImageBuilderLemmas.{PassesWords, TakesEvent-word-unplaced, TakesEvent-word-past, TakesRun-bytes, TakesRun-same}
use Rattle.hunk_loader.proofs.KeptMemoryLemmas.{IsBounded-run}
use Rattle.hunk_loader.proofs.TargetsLemmas.{NamesHunks-taken}
use Rattle.hunk_loader.proofs.image_builder.ImageBuilder.add_bytes.Given.{Over}
use Rattle.hunk_loader.proofs.image_builder.ImageBuilder.add_bytes.Goals as goal
use Rattle.hunk_loader.proofs.image_builder.ImageBuilder.add_bytes.Goals.{After-add_bytes}

-- A hunk that is not placed is not kept.
unplaced : (m : BuilderState) → (m.placing ≡ Unknown) ⊎ ((fault : PlaceFault) × (m.placing ≡ Refused fault)) → m.placing ≢ Placed
unplaced m (inl is) = λ placed. let wrong : Unknown ≡ Placed = sym is ∙ placed in cc
unplaced m (inr (fault, is)) = λ placed. let wrong : Refused fault ≡ Placed = sym is ∙ placed in cc

pub returns-in-Unknown : goal.returns-in-Unknown
returns-in-Unknown g c =
    let m = state_of c.self.inside in
    rw (sym c.self.view_is) (TakesRun-same m m _ (λ u. TakesEvent-word-unplaced m m u (unplaced m c.in-Unknown.is) refl) refl)

pub returns-in_default : goal.returns-in_default
returns-in_default g c =
    let m = state_of c.self.inside in
    rw (sym c.self.view_is) (TakesRun-same m m _ (λ u. TakesEvent-word-past m m u (subst PassesWords (sym c.in_default.is) tt) refl) refl)

taken : (g : Over) (c : After-add_bytes g) → TakesRun (state_of c.self.inside) (record (state_of c.self.inside) { current = Some c.add_bytes.new.self }) c.add_bytes.result (longwords c.args.bytes.now)
taken g c =
    let e = c.add_bytes.ensures in
    TakesRun-bytes _ _ _ c.args.bytes.now _ (are-bytes _ c.type_inv.bytes) c.requires c.in-Placed.is c.in-Some.is e.adds e.fits e.refused

pub invariant_of-self-2 : goal.invariant_of-self-2
invariant_of-self-2 g c = (IsBounded-run _ _ _ _ (taken g (goal.at.invariant_of-self-2 g c).After-add_bytes) c.self.invariant.0, NamesHunks-taken _ _ _ _ _ c.add_bytes.result c.in-Some.is refl c.add_bytes.ensures.adds c.add_bytes.ensures.refused c.self.invariant.1)

pub returns : goal.returns
returns g c = rw (sym c.self.view_is) (taken g (goal.at.returns g c).After-add_bytes)
