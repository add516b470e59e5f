-- named, so that a mistake is refused without a look for advice
use Rattle.std.proofs.Common.{rules}
use Rattle.hunk_loadfile.proofs.load_form.LoadForm.is_short.Goals as goal

pub returns-then-eq : goal.returns-then-eq
returns-then-eq c = search rules
