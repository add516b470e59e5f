-- What the stage stood for, with the piece.
use Rattle.std.proofs.Common.{subst}
use Rattle.hunk_uses.specs.Boot.{StageStandsFor}
use Rattle.hunk_uses.proofs.BootLemmas.{loader-bounded, refuses-more}
use Rattle.hunk_uses.proofs.boot.BootFeed.feed.Goals as goal

pub returns-in-Ok-Some-clause-stands : goal.returns-in-Ok-Some-clause-stands
returns-in-Ok-Some-clause-stands c = λ bytes stands.
    let front = subst (λ stage. StageStandsFor c.args.self.now.first stage bytes) c.in-Header.is stands in
    rw c.in-Ok-Some.field-0-is at ((rw c.in-Header.front-is at c.in-Ok-Some.ensures.fed) bytes front)

pub returns-in-Ok-Some-clause-bounded : goal.returns-in-Ok-Some-clause-bounded
returns-in-Ok-Some-clause-bounded c = λ bytes stands. loader-bounded c.in-Ok-Some.loader bytes (rw c.in-Ok-Some.field-0-is at c.in-Ok-Some.ensures.none) stands.0

pub returns-in-Err-clause-stands : goal.returns-in-Err-clause-stands
returns-in-Err-clause-stands c = λ bytes stands.
    let front = subst (λ stage. StageStandsFor c.args.self.now.first stage bytes) c.in-Header.is stands in
    c.of_file-refusal.ensures _ ((rw c.in-Header.front-is at c.in-Err.ensures.fed) bytes front)

pub returns-in-Refused-clause-stands : goal.returns-in-Refused-clause-stands
returns-in-Refused-clause-stands c = λ bytes stands.
    refuses-more bytes c.args.piece.now c.in-Refused.refusal (subst (λ stage. StageStandsFor c.args.self.now.first stage bytes) c.in-Refused.is stands)
