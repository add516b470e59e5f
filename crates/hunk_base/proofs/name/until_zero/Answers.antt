use Rattle.std.proofs.Common.{Some, None, sym}
use Rattle.hunk_base.proofs.NameLemmas.{before_zero-at}
use Rattle.hunk_base.proofs.name.until_zero.Goals as goal

pub returns-in-Some : goal.returns-in-Some
returns-in-Some c = sym (before_zero-at c.args.bytes.now (Some c.in-Some.end) c.in-Some.ensures)

pub returns-in-None : goal.returns-in-None
returns-in-None c = sym (before_zero-at c.args.bytes.now None c.in-None.ensures)
