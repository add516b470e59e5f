-- What was read of the piece.
use Rattle.std.proofs.Common.{Ok, refl, sym, ap, subst}
use Rattle.hunk_loader.specs.HeaderLoader.{ReadsHeader, hunks_told}
use Rattle.hunk_loader.proofs.HeaderLoaderLemmas.{HasTaken-read, sound-begun}
use Rattle.hunk_loader.proofs.header_loader.HeaderLoader.feed.Goals as goal

pub returns-in-Ok-clause-taken : goal.returns-in-Ok-clause-taken
returns-in-Ok-clause-taken g c = λ none.
    let piece = c.args.piece.now in
    let bytes = ap (λ state. state.bytes) (sym c.self.view_is) in
    let begun = sound-begun c.self.inside.header _ _ c.self.invariant (ap (λ hunks. hunks_told hunks) c.in-None-hunks.is) c.in-None.is in
    let read = c.in-Ok.ensures _ begun.0 begun.1 in
    HasTaken-read piece c.in-Ok.taken c.in-Ok.hunks c.args.self.now _ c.read_header.new.header refl refl
    (subst (λ bs. ReadsHeader bs piece c.read_header.new.header (Ok (c.in-Ok.taken, c.in-Ok.hunks))) (sym bytes) read)
