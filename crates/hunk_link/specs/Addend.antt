-- What the linker knows of what is added at a site: a number that it adds itself, and the rank of
-- the hunk whose base the loader is to add, if there is one.
use Rattle.std.specs.Prelude.{ℕ, ◌+◌, List, map, Option, Some, None, get_or}
use Rattle.hunk_objects.specs.UnitHunk.{ObjectHunk}
use Rattle.hunk_objects.specs.declared.unit_hunk.Adds.{Adds}
use Rattle.hunk_objects.specs.declared.unit_hunk.Adds.TheVariants.{Hunk, Reference}
use Rattle.hunk_objects.specs.declared.unit_hunk.Definition.{Definition}
use Rattle.hunk_objects.specs.declared.unit_hunk.Definition.TheVariants.{At, Absolute}
use Rattle.hunk_link.specs.SymbolTable.{Table, look_up}
use Rattle.hunk_link.specs.declared.addend.Addend.{Addend}
use Rattle.hunk_link.specs.declared.symbol_table.Defined.{Defined}

abbrev pub nothing : Addend
nothing = record { known = 0; base = None }

-- what a definition of the hunk with this rank adds
abbrev pub definition_addend : ℕ → Definition → Addend
definition_addend rank (At offset) = record { known = offset; base = Some rank }
definition_addend rank (Absolute value) = record { known = value; base = None }

abbrev pub defined_addend : Option Defined → Addend
defined_addend None = nothing
defined_addend (Some defined) = definition_addend defined.rank defined.definition

-- what a name adds
abbrev pub name_addend : Table → List ℕ → Addend
name_addend table name = defined_addend (look_up table name)

-- what the references of a hunk add, in order
abbrev pub reference_addends : Table → ObjectHunk → List Addend
reference_addends table hunk = map (name_addend table) hunk.references

-- What is added at a site of a hunk: the base of a hunk of its unit, whose first hunk has this
-- rank; or what one of its references adds.
abbrev pub addend_of : ℕ → List Addend → Adds → Addend
addend_of first addends (Hunk target) = record { known = 0; base = Some (first + target) }
addend_of first addends (Reference index) = get_or addends index nothing
