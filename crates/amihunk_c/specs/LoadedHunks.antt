-- The hunks that a session has loaded.
use Rattle.std.specs.Prelude.{◌≡◌, ℕ, List, [], Option, None, Some, slice_get}
use Rattle.amihunk_c.specs.Spans.{IsSpanOf}
use Rattle.amihunk_c.specs.Codes.{status_code}
use Rattle.amihunk_c.specs.declared.codes.Status.{Status}
use Rattle.amihunk_c.specs.declared.codes.Status.TheVariants as status
use Rattle.amihunk_c.specs.declared.session.Session.{Session}
use Rattle.amihunk_c.specs.declared.session.Session.TheVariants.{Loaded}
use Rattle.amihunk_c.specs.declared.span.Span.{Span}

-- the base and the bytes of each, in order; none if nothing is loaded
abbrev pub hunks_in : Session → List (ℕ × List ℕ)
hunks_in (Loaded image) = image
hunks_in session = []

-- the bytes of one, or none
abbrev pub bytes_of_hunk : Option (ℕ × List ℕ) → List ℕ
bytes_of_hunk None = []
bytes_of_hunk (Some hunk) = hunk.1

-- the bytes of the hunk with this number; none if there is no such hunk
abbrev pub bytes_in : ℕ → Session → List ℕ
bytes_in number session = bytes_of_hunk (slice_get (hunks_in session) number)

-- ---- where a hunk is

-- a hunk is told: its bytes and its base; what was told before stays if there is none
abbrev pub IsLocated : Option (ℕ × List ℕ) → (old new : Span × ℕ) → Status → Type 0
IsLocated None old new told = (new ≡ old) × (told ≡ status.OutOfRange)
IsLocated (Some hunk) old new told = IsSpanOf hunk.1 new.0 × (new.1 ≡ hunk.0) × (told ≡ status.Ok)

abbrev pub LocatesHunk : Session → ℕ → (old new : Span × ℕ) → Status → Type 0
LocatesHunk (Loaded image) number old new told = IsLocated (slice_get image number) old new told
LocatesHunk session number old new told = (new ≡ old) × (told ≡ status.WrongState)

-- the same of a handle, with the number of the status
abbrev pub LocatesHandleHunk : Option Session → ℕ → (old new : Span × ℕ) → ℕ → Type 0
LocatesHandleHunk None number old new code = (new ≡ old) × (code ≡ status_code status.WrongState)
LocatesHandleHunk (Some session) number old new code = (told : Status) × LocatesHunk session number old new told × (code ≡ status_code told)
