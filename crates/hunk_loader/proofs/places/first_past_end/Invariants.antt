use Rattle.std.proofs.Common.{ℕ, ◌<◌}
use Rattle.hunk_loader.specs.Places.{EndsWithin}
use Rattle.hunk_loader.proofs.places.first_past_end.Given as goal

abbrev pub invariant-loop-hunk : goal.invariant-loop-hunk
invariant-loop-hunk g l = (lower : ℕ) → lower < l.hunk → EndsWithin (g.S.Sizes.sizes l.sizes) l.bases lower
