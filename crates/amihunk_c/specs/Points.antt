-- Which byte of which hunk is at an address.
use Rattle.std.specs.Prelude.{◌≡◌, ℕ, ◌+◌, ◌<◌, List, length, Option, None, Some, slice_get}
use Rattle.hunk_loader.specs.Image.{memory_map}
use Rattle.amihunk_c.specs.Codes.{status_code}
use Rattle.amihunk_c.specs.declared.codes.Status.{Status}
use Rattle.amihunk_c.specs.declared.codes.Status.TheVariants as status
use Rattle.amihunk_c.specs.declared.point.PointTold.{PointTold}
use Rattle.amihunk_c.specs.declared.session.Session.{Session}
use Rattle.amihunk_c.specs.declared.session.Session.TheVariants.{Loaded}

-- The byte at this offset of a hunk stands at the address.
abbrev pub IsIn : (base : ℕ) (bytes : List ℕ) (address offset : ℕ) → Type 0
IsIn base bytes address offset = (base + offset ≡ address) × (offset < length bytes)

-- The hunk with this number has a byte at this offset, and it stands at the address.
pub record IsAt (hunks : List (ℕ × List ℕ)) (address : ℕ) (point : PointTold) : Type 0 where
  pub hunk : ℕ × List ℕ
  pub numbered : slice_get hunks point.hunk ≡ Some hunk
  pub at : IsIn hunk.0 hunk.1 address point.offset

abbrev pub IsFound : List (ℕ × List ℕ) → ℕ → Option PointTold → Type 0
IsFound hunks address None = memory_map hunks address ≡ None
IsFound hunks address (Some point) = IsAt hunks address point

-- It is told if there is one; what was told before stays if not.
pub data TellsIn (hunks : List (ℕ × List ℕ)) (address : ℕ) (old new : PointTold) (told : Status) : Type 0 where
  found : IsAt hunks address new → told ≡ status.Ok → TellsIn hunks address old new told
  none : memory_map hunks address ≡ None → new ≡ old → told ≡ status.OutOfRange → TellsIn hunks address old new told

abbrev pub TellsPoint : Session → ℕ → (old new : PointTold) → Status → Type 0
TellsPoint (Loaded image) address old new told = TellsIn image address old new told
TellsPoint session address old new told = (new ≡ old) × (told ≡ status.WrongState)

-- the same of a handle, with the number of the status
abbrev pub TellsHandlePoint : Option Session → ℕ → (old new : PointTold) → ℕ → Type 0
TellsHandlePoint None address old new code = (new ≡ old) × (code ≡ status_code status.WrongState)
TellsHandlePoint (Some session) address old new code = (told : Status) × TellsPoint session address old new told × (code ≡ status_code told)
