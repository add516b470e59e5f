-- What C is told of the hunks in a header.
use Rattle.std.specs.Prelude.{◌≡◌, ℕ, List, length, Option, None, Some, slice_get}
use Rattle.hunk_loader.specs.declared.header_hunks.HeaderHunk.{HeaderHunk}
use Rattle.amihunk_c.specs.Codes.{memory_code, status_code}
use Rattle.amihunk_c.specs.declared.codes.Status.{Status}
use Rattle.amihunk_c.specs.declared.codes.Status.TheVariants as status
use Rattle.amihunk_c.specs.declared.session.Session.{Session}
use Rattle.amihunk_c.specs.declared.session.Session.TheVariants.{Sizing}
use Rattle.amihunk_c.specs.declared.table.TableHunk.{TableHunk}

-- one of so many hunks
abbrev pub table_hunk : ℕ → HeaderHunk → TableHunk
table_hunk hunks hunk = record { hunks = hunks; size = hunk.size; memory = memory_code hunk.memory }

-- the hunks of a whole header
abbrev pub hunks_told : Session → Option (List HeaderHunk)
hunks_told (Sizing header) = header.hunks
hunks_told session = None

-- a hunk is told, of so many; what was told before stays if there is none
abbrev pub IsTold : ℕ → Option HeaderHunk → (old new : TableHunk) → Status → Type 0
IsTold hunks None old new told = (new ≡ old) × (told ≡ status.OutOfRange)
IsTold hunks (Some hunk) old new told = (new ≡ table_hunk hunks hunk) × (told ≡ status.Ok)

abbrev pub TellsOf : Option (List HeaderHunk) → ℕ → (old new : TableHunk) → Status → Type 0
TellsOf None number old new told = (new ≡ old) × (told ≡ status.WrongState)
TellsOf (Some hunks) number old new told = IsTold (length hunks) (slice_get hunks number) old new told

abbrev pub TellsHunk : Session → ℕ → (old new : TableHunk) → Status → Type 0
TellsHunk session number old new told = TellsOf (hunks_told session) number old new told

-- the same of a handle, with the number of the status
abbrev pub TellsHandleHunk : Option Session → ℕ → (old new : TableHunk) → ℕ → Type 0
TellsHandleHunk None number old new code = (new ≡ old) × (code ≡ status_code status.WrongState)
TellsHandleHunk (Some session) number old new code = (told : Status) × TellsHunk session number old new told × (code ≡ status_code told)
