use Rattle.std.proofs.Common.{ℕ, ◌≤◌, List, length}
use Rattle.hunk_base.specs.Name.{most_name}
use Rattle.hunk_objects.proofs.OpenHunkLemmas.{Symbols-same}
use Rattle.hunk_objects.proofs.open_hunk.OpenHunk.begin_debug.Goals as goal

pub invariant_of-self : goal.invariant_of-self
invariant_of-self g c = (
  c.self.invariant.0,
  c.self.invariant.1,
  Symbols-same (λ (symbol : List ℕ × ℕ). length symbol.0 ≤ most_name) _ _ _ c.begin_debug.result c.begin_debug.ensures.begins c.begin_debug.ensures.refused c.self.invariant.2,
)
