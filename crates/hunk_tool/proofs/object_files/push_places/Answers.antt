-- One more place.
use Rattle.std.proofs.Common.{◌∙◌, ◌++◌, ◌∷◌, [], List, ℕ, ap, sym, append_assoc, zero-add}
use Rattle.std.proofs.lemmas.List.FromFn.{map-range_with_len_more}
use Rattle.hunk_tool.specs.ObjectFiles.{places_of}
use Rattle.hunk_tool.specs.declared.object_files.UnitPlace.{UnitPlace}
use Rattle.hunk_tool.proofs.object_files.push_places.Goals as goal

pub loop-number-preserved : goal.loop-number-preserved
loop-number-preserved g c =
    let place : ℕ → UnitPlace = λ number. record { file = c.args.file; number = number } in
    let number = c.loop-number.number in
    let last : List UnitPlace = place number ∷ [] in
    c.in_ok-push.ensures.items
    ∙ ap (λ (places : List UnitPlace). places ++ last) c.loop-number.invariant
    ∙ append_assoc c.args.places.now.items (places_of c.args.file number) last
    ∙ ap (λ (places : List UnitPlace). c.args.places.now.items ++ places) (sym (map-range_with_len_more place 0 number number (zero-add number)))
