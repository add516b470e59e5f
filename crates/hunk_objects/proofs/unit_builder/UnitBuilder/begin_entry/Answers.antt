use Rattle.std.proofs.Common.{◌≡◌, [], ap, sym, subst, ◌∙◌}
use Rattle.hunk_words.specs.EventValue.Receiver.{to_entry}
use Rattle.hunk_objects.specs.OpenHunk.{receiver_of}
use Rattle.hunk_objects.specs.UnitBuilder.{Holds}
use Rattle.hunk_objects.proofs.unit_builder.UnitBuilder.begin_entry.Goals as goal
use Rattle.hunk_objects.proofs.unit_builder.UnitBuilder.begin_entry.Goals.{in-1, in-2, in-129}

pub returns : goal.returns
returns g c = λ told context h.
    let same : receiver_of c.match-entry.named [] ≡ to_entry c.args.entry [] = elim c.match-entry.branch [
      | in-1 w ↦ ap (λ n. receiver_of n []) w.named-is ∙ ap (λ t. to_entry t []) (sym w.in-1.is)
      | in-2 w ↦ ap (λ n. receiver_of n []) w.named-is ∙ ap (λ t. to_entry t []) (sym w.in-2.is)
      | in-129 w ↦ ap (λ n. receiver_of n []) w.named-is ∙ ap (λ t. to_entry t []) (sym w.in-129.is)
    ] in
    subst (λ r. Holds c.begin_named.new.self (record told { receiver = r }) context) same (c.begin_named.ensures told context h)
