-- The line, with the name of the file.
use Rattle.std.proofs.Common.{[], ap, rules}
use Rattle.hunk_base.proofs.TextLemmas.{Puts-as}
use Rattle.hunk_tool.specs.FaultLine.{fault_text, program_line}
use Rattle.hunk_tool.proofs.fault_line.write_fault.Goals as goal

pub returns-clause-wrote : goal.returns-clause-wrote
returns-clause-wrote g c =
    let line = Puts-as (ap (λ name. program_line (fault_text name c.args.fault.now)) c.named_file-name.ensures) c.write_fault_line.ensures in
    let wrote = c.finish.ensures.wrote c.args.writer.now _ (line.adds _ [] c.new-text.ensures.empty) in
    search (rules, wrote)

pub returns-clause-counted : goal.returns-clause-counted
returns-clause-counted g c = λ fits.
    let line = Puts-as (ap (λ name. program_line (fault_text name c.args.fault.now)) c.named_file-name.ensures) c.write_fault_line.ensures in
    let wrote = c.finish.ensures.counted c.args.writer.now _ fits (line.adds _ [] c.new-text.ensures.empty) in
    search (rules, wrote)
