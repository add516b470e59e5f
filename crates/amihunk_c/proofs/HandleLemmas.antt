-- A handle and its parts own what a box of a session owns.
use mathlib.Core.List.{[]}
use mir.Syntax.{dnil, impl, tnil}
use denote.Signature.{Slot, plain}
use Rattle.std_alloc.proofs.BoxSteps.Form.{Bx}
use Rattle.std_heap.specs.contracts.Global as Heap
use Rattle.std_heap.specs.contracts.GlobalAllocator.TheImpl.{dict, ghosts}
use Rattle.std_heap.proofs.Global.TheLaws as heap
use Rattle.amihunk_c.specs.contracts.session.Session as Session
use Rattle.amihunk_c.proofs.session.Session.TheLaws as session
use Rattle.amihunk_c.specs.contracts.handle.Handle as Handle
use Rattle.amihunk_c.specs.contracts.handle.parts.Parts as Parts

abbrev pub E : Bx
E = record { row = Session.the_row; laws = session.the_row_laws; al = record { row = Heap.the_row; laws = heap.the_row_laws; g = ghosts; d = dict; drops = impl [] tnil dnil } }

abbrev pub FromParts : Slot 0
FromParts = plain (λ _. Parts.the_row Session.the_row Heap.the_row ghosts)

abbrev pub FromHandle : Slot 0
FromHandle = plain (λ _. Handle.the_row)
