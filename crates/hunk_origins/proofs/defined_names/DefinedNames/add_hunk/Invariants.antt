-- The names that it had, and those so far.
use Rattle.std.proofs.Common.{◌≡◌, ◌||◌, ℕ, List, take}
use Rattle.std.specs.List.{list_any}
use Rattle.hunk_origins.specs.DefinedNames.{is_name}
use Rattle.hunk_origins.proofs.defined_names.DefinedNames.add_hunk.Given as goal

abbrev pub invariant-loop-name : goal.invariant-loop-name
invariant-loop-name g l =
    (name : List ℕ) → list_any (is_name name) l.self ≡ (list_any (is_name name) l.fn.self || list_any (λ definition. is_name name definition.0) (take l.name-index l.name-items))
