-- The units that are linked: those that were read, or with the names that they define as symbols.
use Rattle.std.specs.Prelude.{Bool, true, false, List, map}
use Rattle.hunk_objects.specs.Globals.{unit_with_globals}
use Rattle.hunk_objects.specs.ProgramUnit.{ObjectUnit}
use Rattle.hunk_loadfile.specs.LoadHunk.{FileHunk}
use Rattle.hunk_link.specs.Carried.{carried}
use Rattle.hunk_tool.specs.ObjectFiles.{FileUnit}

-- With globals, the units have their definitions as symbols before they are linked. If they are stripped, they
-- have lost their own symbols and debug blocks then.
abbrev pub linked_units : (globals strip : Bool) → List ObjectUnit → List ObjectUnit
linked_units false strip units = units
linked_units true strip units = map (unit_with_globals strip) units

-- So the linker itself strips only without globals.
abbrev pub strips : (globals strip : Bool) → Bool
strips false strip = strip
strips true strip = false

-- the hunks of the load file that the units make
abbrev pub carried_with : (globals strip : Bool) → List ObjectUnit → List FileHunk
carried_with globals strip units = carried (linked_units globals strip units) (strips globals strip)

-- ---- with their places

-- a unit with its definitions as symbols, at the same place
abbrev pub placed_with_globals : (strip : Bool) → FileUnit → FileUnit
placed_with_globals strip unit = (unit.0, unit_with_globals strip unit.1)

abbrev pub linked_files : (globals strip : Bool) → List FileUnit → List FileUnit
linked_files false strip units = units
linked_files true strip units = map (placed_with_globals strip) units
