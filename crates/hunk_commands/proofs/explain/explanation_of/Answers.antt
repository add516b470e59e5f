-- What is given is of this fault, or there is no such offence.
use Rattle.std.proofs.Common.{◌∙◌, sym}
use Rattle.hunk_base.proofs.StreamsLemmas.{HasRead-weaker}
use Rattle.hunk_commands.specs.Explain.{kind_read}
use Rattle.hunk_commands.proofs.ExplainLemmas.{no_other_offends, none_offends}
use Rattle.hunk_commands.proofs.FaultLemmas.{other_fault, same_fault}
use Rattle.hunk_commands.proofs.explain.explanation_of.Goals as goal

pub returns-in_default-clause-given : goal.returns-in_default-clause-given
returns-in_default-clause-given g c =
    let kind = kind_read c.args.command in
    let read = rw c.in_default.is at c.in_ok-explanation.ensures.explained in
    HasRead-weaker _ _ _ _ (λ bytes explained. none_offends (kind bytes) c.args.fault bytes explained) read

pub returns-then-eq-clause-given : goal.returns-then-eq-clause-given
returns-then-eq-clause-given g c =
    let kind = kind_read c.args.command in
    let read = rw c.in-Some.is at c.in_ok-explanation.ensures.explained in
    let same = same_fault c.fault.result c.args.fault c.if-eq.ensures in
    HasRead-weaker _ _ _ _ (λ bytes explains. (sym c.fault.ensures ∙ same, explains)) read

pub returns-else-eq-clause-given : goal.returns-else-eq-clause-given
returns-else-eq-clause-given g c =
    let kind = kind_read c.args.command in
    let read = rw c.in-Some.is at c.in_ok-explanation.ensures.explained in
    let other = other_fault c.fault.result c.args.fault c.if-eq.ensures in
    HasRead-weaker _ _ _ _ (λ bytes explains. no_other_offends (kind bytes) c.args.fault c.in-Some.explanation bytes explains (λ same. other (c.fault.ensures ∙ same))) read
