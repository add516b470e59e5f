use Rattle.std.proofs.Common.{OnOk, subst}
use Rattle.hunk_link.specs.References.{AllDefined, references_of}
use Rattle.hunk_link.proofs.linking.link_names.Goals as goal

pub returns-clause-defined : goal.returns-clause-defined
returns-clause-defined g c =
    subst (λ table. OnOk c.resolve.result (AllDefined table (references_of c.args.hunks.now))) c.in_ok-table.ensures.table c.resolve.ensures.defined
