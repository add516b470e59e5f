use Rattle.std.proofs.Common.{ℕ, ◌<◌}
use Rattle.hunk_loader.specs.Places.{ShareAddress}
use Rattle.hunk_loader.proofs.places.first_meeting.Given as goal

abbrev pub invariant-loop-earlier : goal.invariant-loop-earlier
invariant-loop-earlier g l =
    (lower : ℕ) → lower < l.earlier → ¬ ShareAddress (g.S.Sizes.sizes l.sizes) l.bases lower l.later
