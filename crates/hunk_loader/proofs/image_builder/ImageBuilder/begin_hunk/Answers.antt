-- Nothing is known yet of the hunk that begins.
use Rattle.std.proofs.Common.{Ok, Some, sym, refl, subst, length, ◌∙◌, arith}
use Rattle.std.proofs.lemmas.List.{get_or_read_under}
use Rattle.hunk_words.specs.declared.event.Event.{Event}
use Rattle.hunk_loader.specs.ImageBuilder.{BuilderState, TakesEvent, state_of}
use Rattle.hunk_loader.specs.Placing.{Settled}
use Rattle.hunk_loader.proofs.ImageBuilderHunkLemmas.{TakesEvent-begin, begun-is}
use Rattle.hunk_loader.proofs.KeptMemoryLemmas.{IsBounded-takes}
use Rattle.hunk_loader.proofs.TargetsLemmas.{NamesHunks-begun}
use Rattle.hunk_loader.proofs.image_builder.ImageBuilder.begin_hunk.Given.{Over}
use Rattle.hunk_loader.proofs.image_builder.ImageBuilder.begin_hunk.Goals as goal
use Rattle.hunk_loader.proofs.image_builder.ImageBuilder.begin_hunk.Goals.{After-in_room}

begins : (g : Over) (c : After-in_room g)
    → let m = state_of c.self.inside in
    TakesEvent m (record m { placing = c.settled-placing.result; current = Some c.in_room.result }) (Ok tt) (Event.Content c.args.kind c.args.bits c.args.size)
begins g c =
    TakesEvent-begin (state_of c.self.inside) _ _ _ _ _ c.in-None.is (omega arith)
    (subst (λ (m : BuilderState). Settled m.placing m.sizes m.bases c.settled-placing.result) (sym c.self.view_is) c.settled-placing.ensures)
    (begun-is (state_of c.self.inside) _ _ _ c.in_room.ensures
    (c.from.ensures ∙ get_or_read_under c.self.inside.sizes.items c.self.inside.ended (length c.self.inside.sizes.items) c.index-own.result.now 0 c.index-own.ensures (omega arith) refl))

pub invariant_of-self : goal.invariant_of-self
invariant_of-self g c = (IsBounded-takes _ _ _ _ (begins g (goal.at.invariant_of-self g c).After-in_room) c.self.invariant.0, NamesHunks-begun _ _ c.in_room.result c.in_room.ensures)

pub returns-in-Ok : goal.returns-in-Ok
returns-in-Ok g c = rw (sym c.self.view_is) (begins g (goal.at.returns-in-Ok g c).After-in_room)
