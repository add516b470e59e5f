-- Whether the hunks of a load file can be placed at the bases, as far as it is known.
use Rattle.std.specs.Prelude.{◌≡◌, ℕ, List}
use Rattle.hunk_loader.specs.Places.{Placed as ArePlaced, IsFirstRefusal}
use Rattle.hunk_loader.specs.declared.placing.Placing.{Placing}
use Rattle.hunk_loader.specs.declared.placing.Placing.TheVariants.{Unknown, Placed, Refused}

-- whether hunks of these sizes can be placed at these bases
abbrev pub Decides : (sizes bases : List ℕ) → Placing → Type 0
Decides sizes bases Unknown = ⊥
Decides sizes bases Placed = ArePlaced sizes bases
Decides sizes bases (Refused fault) = IsFirstRefusal sizes bases fault

-- it is decided now, or was known
abbrev pub Settled : Placing → (sizes bases : List ℕ) → Placing → Type 0
Settled Unknown sizes bases p = Decides sizes bases p
Settled Placed sizes bases p = p ≡ Placed
Settled (Refused fault) sizes bases p = p ≡ Refused fault
