-- The hunks of a load file, and those that they are from.
use Rattle.std.specs.Prelude.{◌≡◌, List, map, ℕ, Bool}
use Rattle.hunk_words.specs.declared.kinds.HunkKind.{HunkKind}
use Rattle.hunk_words.specs.declared.kinds.Memory.{Memory}
use Rattle.hunk_loadfile.specs.LoadHunk.{FileHunk}
use Rattle.hunk_tool.specs.LinkedUnits.{carried_with}
use Rattle.hunk_tool.specs.ObjectFiles.{FileUnit, units_of}
use Rattle.hunk_origins.specs.Origins.{Origin, origins}

-- a kind, a memory and a size
abbrev pub Form : Type 0
Form = HunkKind × Memory × ℕ

abbrev pub linked_form : FileHunk → Form
linked_form hunk = (hunk.kind, hunk.memory, hunk.size)

abbrev pub origin_form : Origin → Form
origin_form origin = (origin.hunk.kind, origin.hunk.memory, origin.hunk.size)

-- The hunks of a load file have the kinds, the memories and the sizes of the hunks that they are from.
abbrev pub HunksAreOfOrigins : Type 0
HunksAreOfOrigins = (units : List FileUnit) (globals strip : Bool) → map linked_form (carried_with globals strip (units_of units)) ≡ map origin_form (origins units)
