-- None of the names so far is that name.
use Rattle.std.proofs.Common.{◌≡◌, drop}
use Rattle.std.specs.List.{list_any}
use Rattle.hunk_origins.specs.DefinedNames.{defines, is_name}
use Rattle.hunk_origins.proofs.defined_names.defines.Given as goal

abbrev pub invariant-loop-own : goal.invariant-loop-own
invariant-loop-own g l = list_any (λ definition. is_name l.name definition.0) (drop l.own-index l.own-items) ≡ defines l.name l.hunk
