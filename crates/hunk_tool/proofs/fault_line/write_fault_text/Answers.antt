-- The pieces, one after another.
use Rattle.std.proofs.Common.{◌≡◌, ◌++◌, ℕ, List, append_assoc, codes}
use Rattle.std.specs.Fmt.{decimal}
use Rattle.hunk_base.proofs.TextLemmas.{◌⨾◌, Puts-as}
use Rattle.hunk_tool.specs.FaultLine.{reason_text}
use Rattle.hunk_tool.proofs.fault_line.write_fault_text.Goals as goal

place-between : (name a place b reason : List ℕ) → name ++ (a ++ place ++ b) ++ reason ≡ name ++ a ++ place ++ b ++ reason
place-between name a place b reason = simp append_assoc

pub returns-in-Input : goal.returns-in-Input
returns-in-Input g c = rw c.in-Input.is (Puts-as (place-between c.args.name.now (codes ": longword ") (decimal c.in-Input.fault.place) (codes ": ") (reason_text c.in-Input.fault.reason)) (c.put.ensures ⨾ c.write_number.ensures ⨾ c.write_reason.ensures))
