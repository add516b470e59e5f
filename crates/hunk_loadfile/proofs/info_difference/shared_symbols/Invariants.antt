-- Both begin with the symbols so far, and the remaining ones decide.
use Rattle.std.proofs.Common.{◌≡◌, ◌+◌, drop}
use Rattle.std.specs.List.{common_prefix_len}
use Rattle.hunk_loadfile.specs.InfoDifference.{is_same_symbol}
use Rattle.hunk_loadfile.proofs.info_difference.shared_symbols.Given as goal

abbrev pub invariant-loop-index : goal.invariant-loop-index
invariant-loop-index g l = common_prefix_len is_same_symbol l.first l.second ≡ l.index + common_prefix_len is_same_symbol (drop l.index l.first) (drop l.index l.second)
