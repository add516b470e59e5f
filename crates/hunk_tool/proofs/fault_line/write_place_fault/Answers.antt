-- The pieces, one after another.
use Rattle.std.proofs.Common.{◌≡◌, ◌++◌, ℕ, List, append_assoc, codes}
use Rattle.std.specs.Fmt.{decimal}
use Rattle.hunk_base.proofs.TextLemmas.{◌⨾◌, Puts-as}
use Rattle.hunk_tool.proofs.fault_line.write_place_fault.Goals as goal

two-numbers : (a one b other c : List ℕ) → (a ++ one ++ b) ++ (other ++ c) ≡ a ++ one ++ b ++ other ++ c
two-numbers a one b other c = simp append_assoc

pub returns-in-Overlap : goal.returns-in-Overlap
returns-in-Overlap g c = rw c.in-Overlap.is (Puts-as (two-numbers (codes "hunks ") (decimal c.in-Overlap.earlier) (codes " and ") (decimal c.in-Overlap.later) (codes " overlap")) (c.write_number-in-Overlap.ensures ⨾ c.write_number-in-Overlap-2.ensures))
