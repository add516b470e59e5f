-- There are no more of them than longwords that symbols take.
use Rattle.std.proofs.Common.{ap, arith}
use Rattle.std.proofs.lemmas.List.Sums.{sum_by_more_le}
use Rattle.hunk_tool.specs.Symbols.{unheld_in}
use Rattle.hunk_tool.proofs.SymbolsLemmas.{number_left_out-fits}
use Rattle.hunk_tool.proofs.symbols.number_left_out.Goals as goal

pub overflow_add-count : goal.overflow_add-count
overflow_add-count g c =
    omega (
      arith,
      sum_by_more_le unheld_in c.args.hunks.now c.loop-hunk.hunk-index c.hunk-item.result c.loop-hunk-test.true,
      ap unheld_in c.hunk-item.is,
      number_left_out-fits c.args.hunks.now c.requires,
    )
