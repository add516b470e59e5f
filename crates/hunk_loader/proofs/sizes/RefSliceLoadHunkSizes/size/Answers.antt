-- `grind` at once: `search`, which Rattle tries before it, is slow here
use Rattle.std.proofs.Common.{arith}
use Rattle.std.proofs.lemmas.Grind.{common_steps}
use Rattle.hunk_loader.proofs.sizes.RefSliceLoadHunkSizes.size.Goals as goal

pub offset_bounds-self-hunk : goal.offset_bounds-self-hunk
offset_bounds-self-hunk g c = grind (arith, common_steps)

pub bounds-self-hunk : goal.bounds-self-hunk
bounds-self-hunk g c = grind (arith, common_steps)

pub returns : goal.returns
returns g c = grind (arith, common_steps)
