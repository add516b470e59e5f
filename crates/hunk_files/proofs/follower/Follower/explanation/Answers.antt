-- It stopped at the fault.
use Rattle.std.proofs.Common.{Some, ap, sym, ◌∙◌}
use Rattle.hunk_words.specs.FirstOffence.FirstOffence.{longword_offends}
use Rattle.hunk_files.proofs.FollowerLemmas.{Explains-of}
use Rattle.hunk_files.proofs.follower.Follower.explanation.Goals as goal

pub returns-in-Some-Fault-clause-ok : goal.returns-in-Some-Fault-clause-ok
returns-in-Some-Fault-clause-ok g c = λ bytes stands.
    let kind = g.T.Taker.KIND in
    let fault = c.in-Some-Fault.fault in
    let kept = sym c.refusal.ensures ∙ c.in-Some-Fault.is ∙ ap (λ r. Some r) c.in-Some-Fault.field-0-is in
    let at = stands.words.stopped fault kept in
    let offends = longword_offends (stands.words.core.faulty fault kept) in
    Explains-of kind bytes c.new.result fault at.front c.new.ensures.fault c.new.ensures.offset offends at.at_place
    (rw c.new.ensures.found (at.behind, at.parts)) (rw c.new.ensures.due at.due) (rw c.new.ensures.path at.path)
