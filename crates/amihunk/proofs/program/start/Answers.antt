-- What a start asks for: nothing, where there is no stack or no memory, or what the arguments ask for.
use Rattle.std.proofs.Common.{inr, refl}
use Rattle.hunk_commands.specs.declared.request.Request.TheVariants.{OutOfMemory}
use Rattle.amihunk.proofs.program.start.Goals as goal

pub returns-then-not-has_stack-clause-ends : goal.returns-then-not-has_stack-clause-ends
returns-then-not-has_stack-clause-ends g c = record { request = OutOfMemory; is_start = inr refl; ends = c.answer.ensures }

pub returns-in_default-clause-ends : goal.returns-in_default-clause-ends
returns-in_default-clause-ends g c = record { request = OutOfMemory; is_start = inr refl; ends = c.answer-in_default.ensures }
