-- Of the hunks so far, the references to names that none of all hunks defines.
use Rattle.std.proofs.Common.{◌≡◌, take}
use Rattle.hunk_origins.specs.Undefined.{references, undefined, uses_of}
use Rattle.hunk_origins.proofs.undefined.Uses.undefined.Given as goal

abbrev pub invariant-loop-origin : goal.invariant-loop-origin
invariant-loop-origin g l = l.uses ≡ uses_of (undefined l.hunks (references (take l.origin-index l.hunks)))
