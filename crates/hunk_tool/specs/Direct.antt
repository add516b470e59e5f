-- The memory that program units define directly. No load file occurs in it: each hunk stands at the
-- base of its rank, with its content followed by zeros, and at each site the address or number that
-- it names is added to the longword there, modulo 2^32 (The AmigaDOS Manual, 3rd edition, "Amiga
-- binary file structure").
use Rattle.std.specs.Prelude.{ℕ, ◌+◌, ◌*◌, List, map, Option, Some, None, slice_index}
use Rattle.std.specs.List.{zip}
use Rattle.hunk_loadfile.specs.Patching.{patched_bytes}
use Rattle.hunk_objects.specs.ProgramUnit.{ObjectUnit}
use Rattle.hunk_objects.specs.declared.unit_hunk.Adds.{Adds}
use Rattle.hunk_objects.specs.declared.unit_hunk.Adds.TheVariants.{Hunk, Reference}
use Rattle.hunk_objects.specs.declared.unit_hunk.Definition.{Definition}
use Rattle.hunk_objects.specs.declared.unit_hunk.Definition.TheVariants.{At, Absolute}
use Rattle.hunk_link.specs.Ranks.{RankedHunk, hunks_of}
use Rattle.hunk_link.specs.SymbolTable.{Table, look_up, table_of}
use Rattle.hunk_link.specs.declared.symbol_table.Defined.{Defined}

-- an offset of the hunk at this base, or the number itself
abbrev pub definition_value : ℕ → Definition → ℕ
definition_value base (At offset) = base + offset
definition_value base (Absolute number) = number

-- 0 for a name that is not defined
abbrev pub defined_value : List ℕ → Option Defined → ℕ
defined_value bases None = 0
defined_value bases (Some defined) = definition_value (slice_index bases defined.rank) defined.definition

-- the value of a name; the bases are in the order of the ranks
abbrev pub name_value : List ℕ → Table → List ℕ → ℕ
name_value bases table name = defined_value bases (look_up table name)

-- what is added at a site of the hunk: the base of a hunk of its unit, or the value of the name of a
-- reference
abbrev pub added : List ℕ → Table → RankedHunk → Adds → ℕ
added bases table ranked (Hunk target) = slice_index bases (ranked.first + target)
added bases table ranked (Reference index) = slice_index (map (name_value bases table) ranked.hunk.references) index

abbrev pub direct_bytes : List ℕ → Table → RankedHunk → List ℕ
direct_bytes bases table ranked =
    patched_bytes (4 * ranked.hunk.size) ranked.hunk.content ranked.hunk.sites.entries (added bases table ranked)

-- the base and the bytes of each hunk, in the order of the ranks
abbrev pub direct : List ObjectUnit → List ℕ → List (ℕ × List ℕ)
direct units bases = map (λ placed. (placed.0, direct_bytes bases (table_of (hunks_of units)) placed.1)) (zip bases (hunks_of units))
