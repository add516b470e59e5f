-- The units are those of the object files so far.
use Rattle.std.proofs.Common.{take}
use Rattle.hunk_tool.specs.Inputs.{AreObjects}
use Rattle.hunk_uses.specs.Assembler.{bytes_of_each}
use Rattle.hunk_uses.proofs.assembler.link_objects.Given as goal

abbrev pub invariant-loop-file : goal.invariant-loop-file
invariant-loop-file l = AreObjects (bytes_of_each (take l.file l.objects)) l.units.items
