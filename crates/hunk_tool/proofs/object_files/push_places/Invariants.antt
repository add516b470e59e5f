use Rattle.std.proofs.Common.{◌≡◌, ◌++◌}
use Rattle.hunk_tool.specs.ObjectFiles.{places_of}
use Rattle.hunk_tool.proofs.object_files.push_places.Given as goal

abbrev pub invariant-loop-number : goal.invariant-loop-number
invariant-loop-number g l = l.places.items ≡ l.fn.places.items ++ places_of l.file l.number
