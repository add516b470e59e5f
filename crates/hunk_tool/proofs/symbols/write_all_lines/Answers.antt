-- The lines of all hunks.
use Rattle.std.proofs.Common.{[], rules, arith}
use Rattle.hunk_tool.specs.declared.symbol_form.SymbolForm.TheVariants.{Lines}
use Rattle.hunk_tool.proofs.SymbolsLemmas.{symbol_lines-fit}
use Rattle.hunk_tool.proofs.symbols.write_all_lines.Goals as goal

pub returns-clause-wrote : goal.returns-clause-wrote
returns-clause-wrote g c =
    let fits = symbol_lines-fit Lines c.args.hunks.now c.args.bases.now c.requires.valid in
    let wrote = c.finish.ensures.counted c.args.writer.now _ (omega (arith, fits)) (c.put_lines.ensures.adds _ [] c.new-text.ensures.empty) in
    search (rules, wrote)
