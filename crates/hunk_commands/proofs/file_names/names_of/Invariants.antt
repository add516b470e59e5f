use Rattle.std.proofs.Common.{◌≡◌, map, string_bytes, take}
use Rattle.hunk_tool.specs.Inputs.{file_names}
use Rattle.hunk_commands.proofs.file_names.names_of.Given as goal

abbrev pub invariant-loop-file : goal.invariant-loop-file
invariant-loop-file l = map string_bytes l.names.items ≡ file_names (take l.file-index l.files)
