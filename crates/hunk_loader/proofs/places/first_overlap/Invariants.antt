use Rattle.std.proofs.Common.{ℕ, ◌<◌}
use Rattle.hunk_loader.specs.Places.{ApartFromEarlier}
use Rattle.hunk_loader.proofs.places.first_overlap.Given as goal

abbrev pub invariant-loop-later : goal.invariant-loop-later
invariant-loop-later g l =
    (lower : ℕ) → lower < l.later → ApartFromEarlier (g.S.Sizes.sizes l.sizes) l.bases lower
