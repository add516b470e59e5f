-- The state of an allocator that fails one allocation, or each from one on.
pub use Rattle.std.specs.Prelude.{true, false}
use Rattle.std.specs.Prelude.{◌≡◌, ℕ, Bool}
use mir.Syntax.{Ty}
use base.Fml.{Fml}
use denote.RawPtr.{Ptr}
use Rattle.std.specs.declared.alloc.Global.{Global}
use Rattle.std.specs.contracts.impls.GlobalAllocator.TheImpl.{ghosts}
use Rattle.hunk_test_support.specs.declared.refusing.Refusing.{Refusing}

-- What lets a block go back: it is a block of the heap inside.
abbrev pub heap_token : Refusing → Ty → Ptr → Fml
heap_token heap = ghosts.dealloc_token heap.inner

-- It passes allocations on to that heap, except the one with that number, and the later ones where it
-- fails those too.
pub record Refuses (heap : Refusing) (inner : Global) (number : ℕ) (later : Bool) : Type 0 where
  pub passes_on : heap.inner ≡ inner
  pub refuses : heap.growths.refused ≡ number
  pub refuses_later : heap.growths.later ≡ later
