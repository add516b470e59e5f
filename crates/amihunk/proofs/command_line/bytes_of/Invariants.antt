-- The texts so far have their bytes.
use Rattle.std.proofs.Common.{◌≡◌, take}
use Rattle.clap.specs.Walk.{texts}
use Rattle.amihunk.proofs.command_line.bytes_of.Given as goal

abbrev pub invariant-loop-file : goal.invariant-loop-file
invariant-loop-file l = texts l.bytes.items ≡ texts (take l.file-index l.files)
