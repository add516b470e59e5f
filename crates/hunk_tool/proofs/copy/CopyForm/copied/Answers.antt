-- named, so that a mistake is refused without a look for advice
use Rattle.std.proofs.Common.{rules}
use Rattle.hunk_tool.proofs.copy.CopyForm.copied.Goals as goal

pub returns-in-Written : goal.returns-in-Written
returns-in-Written g c = search rules
