-- The parts of the text, one after another.
use Rattle.std.proofs.Common.{[], ap, rules}
use Rattle.hunk_base.proofs.TextLemmas.{◌⨾◌, Puts-as}
use Rattle.hunk_tool.specs.Symbols.{left_out_text}
use Rattle.hunk_tool.proofs.SymbolsLemmas.{record_text-fits}
use Rattle.hunk_tool.proofs.symbols.write_all_records.Goals as goal

pub returns-clause-wrote : goal.returns-clause-wrote
returns-clause-wrote g c =
    let told = Puts-as (ap left_out_text c.number_left_out.ensures) c.put_number_left_out.ensures in
    let whole = c.put.ensures ⨾ (c.put_lines.ensures ⨾ (c.put-2.ensures ⨾ (told ⨾ c.put_image.ensures))) in
    let fits = record_text-fits c.args.hunks.now c.args.bases.now c.args.image.now c.requires.valid c.requires.counted c.requires.inside in
    let wrote = c.finish.ensures.counted c.args.writer.now _ fits (whole.adds _ [] c.new-text.ensures.empty) in
    search (rules, wrote)
