-- The header is whole: all bytes are those that were kept, and the rest of the piece.
use Rattle.std.proofs.Common.{◌++◌, take, ap, ◌∙◌}
use Rattle.hunk_uses.proofs.BootLemmas.{front-loaded}
use Rattle.hunk_uses.proofs.boot.Front.feed.Goals as goal

pub returns-in_ok-loader-in-Some-clause-fed : goal.returns-in_ok-loader-in-Some-clause-fed
returns-in_ok-loader-in-Some-clause-fed c = λ bytes front.
    let kept = c.deref.ensures.value ∙ c.in_ok-extend_from_slice.ensures.items ∙ ap (λ bs. bs ++ take c.in_ok-taken.taken c.args.piece.now) front.kept in
    front-loaded c.args.first c.args.self.now c.in_ok-loader-in-Some.loader c.deref.result.now bytes c.args.piece.now c.in_ok-taken.taken c.args.self.now.header c.feed.new.self c.in-Some.hunks.now
    front.read kept (c.in_ok-taken.ensures.taken front.none) c.in-Some.ensures.hunks c.in_ok-loader-in-Some.ensures.starts
