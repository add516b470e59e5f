-- What C is told of hunks that are to be placed.
use Rattle.std.specs.Prelude.{◌≡◌, ◌⊎◌, ℕ, List}
use Rattle.hunk_loader.specs.Places.{IsFirstRefusal, Placed}
use Rattle.hunk_loader.specs.declared.places.PlaceFault.{PlaceFault}
use Rattle.amihunk_c.specs.Answers.{place_answer, plain_answer}
use Rattle.amihunk_c.specs.declared.answer.Answer.{Answer}
use Rattle.amihunk_c.specs.declared.codes.Status.TheVariants as status

-- They can be placed, or this is the first fault.
abbrev pub ChecksPlaces : (sizes bases : List ℕ) → Answer → Type 0
ChecksPlaces sizes bases answer =
    (Placed sizes bases × (answer ≡ plain_answer status.Ok)) ⊎ ((fault : PlaceFault) × IsFirstRefusal sizes bases fault × (answer ≡ place_answer fault))
