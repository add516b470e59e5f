-- The names that hunks refer to and no hunk defines, each with the first reference to it and the number
-- of references.
use Rattle.std.specs.Prelude.{ℕ, suc, List, [], ◌∷◌, Option, None, Some, count_by, filter, map, not}
use Rattle.std.specs.List.{flat_map}
use Rattle.std.specs.Map.{lookup}
use Rattle.hunk_origins.specs.DefinedNames.{is_defined, is_name}
use Rattle.hunk_origins.specs.Origins.{Origin}

-- a name, and the hunk that refers to it
abbrev pub Reference : Type 0
Reference = List ℕ × Origin

-- the references of a hunk, in file order
abbrev pub references_of : Origin → List Reference
references_of origin = map (λ name. (name, origin)) origin.hunk.references

-- those of several hunks
abbrev pub references : List Origin → List Reference
references hunks = flat_map references_of hunks

-- those to names that none of the hunks defines
abbrev pub undefined : List Origin → List Reference → List Reference
undefined hunks references = filter (λ reference. not (is_defined reference.0 hunks)) references

-- ---- each name once

-- where a name is first referred to, and the number of references to it
pub record Use : Type 0 where
  pub origin : Origin
  pub count : ℕ

abbrev pub Uses : Type 0
Uses = List (List ℕ × Use)

-- those of other names
abbrev pub without : (name : List ℕ) → Uses → Uses
without name uses = filter (λ used. not (is_name name used.0)) uses

-- the names of these references, each once, in the order of its first reference
abbrev pub uses_of : List Reference → Uses
uses_of [] = []
uses_of (first ∷ others) =
    (first.0, record { origin = first.1; count = suc (count_by (λ reference. is_name first.0 reference.0) others) })
    ∷ without first.0 (uses_of others)

-- the names that the hunks refer to and none of them defines
abbrev pub undefined_uses : List Origin → Uses
undefined_uses hunks = uses_of (undefined hunks (references hunks))

-- ---- one more reference

-- the use of a name with one more reference
abbrev pub next_use : Option Use → Origin → Use
next_use None origin = record { origin = origin; count = 1 }
next_use (Some used) origin = record { origin = used.origin; count = suc used.count }

-- what is told of the name
abbrev pub look_up : Uses → List ℕ → Option Use
look_up uses name = lookup (is_name name) uses
