-- The texts of the names so far.
use Rattle.std.proofs.Common.{◌≡◌, map, string_bytes, take}
use Rattle.hunk_tool.specs.Inputs.{file_names}
use Rattle.hunk_commands.proofs.link_request.texts_of.Given as goal

abbrev pub invariant-loop-name : goal.invariant-loop-name
invariant-loop-name l = file_names l.texts.items ≡ map string_bytes (take l.name-index l.names)
