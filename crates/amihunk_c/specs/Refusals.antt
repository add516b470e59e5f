-- Why a session is refused: as the program reports it, and as C is told.
use Rattle.std.specs.Prelude.{ℕ, List, None}
use Rattle.std.specs.Global.{Global}
use Rattle.hunk_base.specs.declared.fault.Fault.{Fault}
use Rattle.hunk_base.specs.declared.fault.Refusal.{Refusal}
use Rattle.hunk_base.specs.declared.fault.Refusal.TheVariants as refusal_is
use Rattle.hunk_link.specs.declared.refusal.LinkRefusal.{LinkRefusal}
use Rattle.hunk_link.specs.declared.refusal.LinkRefusal.TheVariants as link
use Rattle.hunk_loader.specs.declared.loading.LoadRefusal.{LoadRefusal}
use Rattle.hunk_loader.specs.declared.loading.LoadRefusal.TheVariants as load
use Rattle.hunk_loader.specs.declared.places.PlaceFault.{PlaceFault}
use Rattle.hunk_tool.specs.declared.tool_fault.ToolFault.TheVariants.{Input, Link, Place, OutOfMemory}
use Rattle.amihunk_c.specs.Answers.{file_answer, link_answer, place_answer, plain_answer}
use Rattle.amihunk_c.specs.InputNumbers.{input_of}
use Rattle.amihunk_c.specs.declared.codes.Status.TheVariants as status
use Rattle.amihunk_c.specs.declared.refused.Refused.{Refused}

-- The bytes of the input with this number offend there, for this reason.
abbrev pub file_refused : Fault → ℕ → Refused
file_refused fault input = record { fault = Input 0 fault; answer = file_answer fault input; undefined = None }

abbrev pub place_refused : PlaceFault → Refused
place_refused fault = record { fault = Place fault; answer = place_answer fault; undefined = None }

abbrev pub memory_refused : Refused
memory_refused = record { fault = OutOfMemory 0; answer = plain_answer status.OutOfMemory; undefined = None }

-- the refusal of a load file
abbrev pub load_refused : LoadRefusal → Refused
load_refused (load.File fault) = file_refused fault 0
load_refused (load.Place fault) = place_refused fault
load_refused load.OutOfMemory = memory_refused

-- the refusal of an input
abbrev pub input_refused : Refusal → ℕ → Refused
input_refused (refusal_is.Fault fault) input = file_refused fault input
input_refused refusal_is.OutOfMemory input = memory_refused

-- The refusal of units; for each input, the second list has the number of units up to its end.
abbrev pub link_refused : LinkRefusal Global → List ℕ → Refused
link_refused link.OutOfMemory ends = memory_refused
link_refused refusal ends = record { fault = Link refusal; answer = link_answer refusal (input_of refusal ends); undefined = None }
