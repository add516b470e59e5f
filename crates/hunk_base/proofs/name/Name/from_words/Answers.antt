use Rattle.std.proofs.Common.{◌∙◌, sym}
use Rattle.hunk_base.proofs.NameLemmas.{name_of-bytes, name_of-names, names-unique}
use Rattle.hunk_base.proofs.name.Name.from_words.Goals as goal

pub invariant_of-result : goal.invariant_of-result
invariant_of-result g c = rw c.in_ok-cut.ensures (name_of-bytes c.args.words.now)

pub returns-clause-names : goal.returns-clause-names
returns-clause-names g c = rw c.in_ok-cut.ensures (name_of-names c.args.words.now)

pub returns-clause-only : goal.returns-clause-only
returns-clause-only g c = λ other h. names-unique other c.args.words.now h ∙ sym c.in_ok-cut.ensures
