-- What a call about the rooms of hunks answers.
use Rattle.std.specs.Prelude.{◌≡◌, ◌≢◌, ℕ, List, Option, None, Some}
use Rattle.hunk_loader.specs.declared.header_hunks.HeaderHunk.{HeaderHunk}
use Rattle.amihunk_c.specs.Codes.{status_code}
use Rattle.amihunk_c.specs.Tables.{hunks_told}
use Rattle.amihunk_c.specs.declared.codes.Status.{Status}
use Rattle.amihunk_c.specs.declared.codes.Status.TheVariants as status
use Rattle.amihunk_c.specs.declared.session.Session.{Session}

-- It is out of turn exactly if the header is not whole.
abbrev pub IsRoomStatus : Option (List HeaderHunk) → Status → Type 0
IsRoomStatus None told = told ≡ status.WrongState
IsRoomStatus (Some hunks) told = told ≢ status.WrongState

-- the same of a handle, with the number of the status
abbrev pub TellsRoom : Option Session → ℕ → Type 0
TellsRoom None code = code ≡ status_code status.WrongState
TellsRoom (Some session) code = (told : Status) × IsRoomStatus (hunks_told session) told × (code ≡ status_code told)
