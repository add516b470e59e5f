-- No longwords are the files of two values, since the value is what the events of their fields
-- build.
use Rattle.std.proofs.Common.{List, [], ◌∷◌, ap, sym, ◌∙◌}
use Rattle.hunk_words.specs.Event.{events}
use Rattle.hunk_words.specs.Values.{Hunk, Part}
use Rattle.hunk_words.specs.EventValue.{value_of_events, initial_object, initial_load}
use Rattle.hunk_words.specs.EventLaws.{ObjectOneValue, LoadOneValue}
use Rattle.hunk_words.proofs.ReadingSameLemmas.{object-same, load-same}
use Rattle.hunk_words.proofs.EventValueTreeLemmas.{object-told, load-told}

pub object-one : ObjectOneValue
object-one t u p q same =
    sym (object-told t p) ∙ ap (λ fs. (value_of_events initial_object (events fs)).parts) (object-same t u p q same) ∙ object-told u q

-- the hunks of the first part
abbrev first_hunks : List Part → List Hunk
first_hunks [] = []
first_hunks (p ∷ ps) = p.hunks

pub load-one : LoadOneValue
load-one t u p q same = (
  sym (load-told t p).0 ∙ ap (λ fs. (value_of_events initial_load (events fs)).sizes) (load-same t u p q same) ∙ (load-told u q).0,
  ap (λ ps. first_hunks ps) (sym (load-told t p).1 ∙ ap (λ fs. (value_of_events initial_load (events fs)).parts) (load-same t u p q same) ∙ (load-told u q).1),
)
