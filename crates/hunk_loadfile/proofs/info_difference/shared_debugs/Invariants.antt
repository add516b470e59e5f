-- Both begin with the debug blocks so far, and the remaining ones decide.
use Rattle.std.proofs.Common.{◌≡◌, ◌+◌, drop}
use Rattle.std.specs.List.{common_prefix_len}
use Rattle.hunk_words.specs.DebugInfo.{lists_of}
use Rattle.hunk_loadfile.specs.InfoDifference.{is_same_debug}
use Rattle.hunk_loadfile.proofs.info_difference.shared_debugs.Given as goal

abbrev pub invariant-loop-index : goal.invariant-loop-index
invariant-loop-index g l =
    common_prefix_len is_same_debug (lists_of l.first) (lists_of l.second)
    ≡ l.index + common_prefix_len is_same_debug (drop l.index (lists_of l.first)) (drop l.index (lists_of l.second))
