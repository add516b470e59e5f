-- What a handle owns: the box of its session, or nothing at null.
use base.Fml.{Fml, ftrue, fex}
use base.Stored.{Coded}
use denote.RawPtr.{Ptr, null_ptr}
use Rattle.std.specs.Box.Ownership.{box_owns}
use Rattle.std.specs.Coded.{coded_option}
use Rattle.std.specs.Global.{Global}
use Rattle.std.specs.Prelude.{◌≡◌, Option, Some, None}
use Rattle.std_heap.specs.contracts.GlobalAllocator.TheImpl.{ghosts}
use Rattle.amihunk_c.specs.contracts.session.Session.{the_row}

abbrev pub handle_owns : Global → Ptr → Option the_row.Denot → Fml
handle_owns alloc ptr None = fex (ptr ≡ null_ptr) (λ is_null. ftrue)
handle_owns alloc ptr (Some session) = box_owns (ghosts.dealloc_token alloc) the_row ptr session

abbrev pub session_coded : Coded (Option the_row.Denot)
session_coded = coded_option the_row.coded
