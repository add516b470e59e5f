-- named, so that a mistake is refused without a look for advice
use Rattle.std.proofs.Common.{rules}
use Rattle.hunk_tool.proofs.tool_fault.status_of.Goals as goal

pub returns-in-InputDevice : goal.returns-in-InputDevice
returns-in-InputDevice g c = search rules

pub returns-in-InputDevice-2 : goal.returns-in-InputDevice-2
returns-in-InputDevice-2 g c = search rules
