-- What C is told of a call, in numbers.
use Rattle.std.specs.Global.{Global}
use Rattle.std.specs.Prelude.{ℕ}
use Rattle.hunk_base.specs.declared.fault.Fault.{Fault}
use Rattle.hunk_loader.specs.declared.places.PlaceFault.{PlaceFault}
use Rattle.hunk_loader.specs.declared.places.PlaceFault.TheVariants.{WrongCount, PastEnd, Overlap}
use Rattle.hunk_link.specs.declared.refusal.LinkRefusal.{LinkRefusal}
use Rattle.hunk_link.specs.declared.refusal.LinkRefusal.TheVariants as link
use Rattle.amihunk_c.specs.Codes.{link_status, reason_code, reason_number, status_code}
use Rattle.amihunk_c.specs.declared.answer.Answer.{Answer}
use Rattle.amihunk_c.specs.declared.codes.Status.{Status}
use Rattle.amihunk_c.specs.declared.codes.Status.TheVariants as status
use Rattle.amihunk_c.specs.declared.codes.Status.TheVariants.{DuplicateName, File, NoSuchHunk, UndefinedName}

-- a status alone
abbrev pub plain_answer : Status → Answer
plain_answer status = record { place = 0; input = 0; unit = 0; hunk = 0; other = 0; status = status_code status; reason = 0; number = 0 }

-- the bytes of the input with this number offend there, for this reason
abbrev pub file_answer : Fault → ℕ → Answer
file_answer fault input = record (plain_answer File) { place = fault.place; input = input; reason = reason_code fault.reason; number = reason_number fault.reason }

-- hunks cannot be placed
abbrev pub place_answer : PlaceFault → Answer
place_answer WrongCount = plain_answer status.WrongCount
place_answer (PastEnd hunk) = record (plain_answer status.PastEnd) { hunk = hunk }
place_answer (Overlap earlier later) = record (plain_answer status.Overlap) { hunk = earlier; other = later }

-- units do not link; a unit that the refusal tells is one of the input with this number
abbrev pub link_answer : LinkRefusal Global → ℕ → Answer
link_answer (link.NoSuchHunk unit hunk target) input = record (plain_answer NoSuchHunk) { input = input; unit = unit; hunk = hunk; other = target }
link_answer (link.DuplicateName unit hunk name) input = record (plain_answer DuplicateName) { input = input; unit = unit; hunk = hunk }
link_answer (link.UndefinedName unit hunk name) input = record (plain_answer UndefinedName) { input = input; unit = unit; hunk = hunk }
link_answer refusal input = plain_answer (link_status refusal)
