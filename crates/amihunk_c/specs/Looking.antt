-- What is asked of a file that was read, and what C is told.
use Rattle.std.specs.Prelude.{◌≡◌, ℕ, List, Option, None, Some, Result, Ok, Err, slice_get}
use Rattle.hunk_files.specs.FileValue.{FileValue}
use Rattle.amihunk_c.specs.Codes.{status_code}
use Rattle.amihunk_c.specs.Facts.{HunkFacts}
use Rattle.amihunk_c.specs.Looked.{contents_of, hunk_at, unit_at}
use Rattle.amihunk_c.specs.declared.codes.Status.{Status}
use Rattle.amihunk_c.specs.declared.codes.Status.TheVariants.{OutOfRange, WrongState}
use Rattle.amihunk_c.specs.declared.codes.Status.TheVariants as status
use Rattle.amihunk_c.specs.declared.session.Session.{Session}
use Rattle.amihunk_c.specs.declared.session.Session.TheVariants.{Read}

-- ---- what is asked

-- what was read, if a file was
abbrev pub read_in : Option Session → Result FileValue Status
read_in (Some (Read looked)) = Ok looked
read_in session = Err WrongState

abbrev pub or_out_of_range : {T : Type 0} → Option T → Result T Status
or_out_of_range None = Err OutOfRange
or_out_of_range (Some thing) = Ok thing

abbrev pub and_then : {T S : Type 0} → Result T Status → (T → Result S Status) → Result S Status
and_then (Ok thing) next = next thing
and_then (Err error) next = Err error

abbrev pub contents_in : Option Session → Result (ℕ × ℕ) Status
contents_in session = and_then (read_in session) (λ file. Ok (contents_of file))

-- the name and the number of hunks of a unit
abbrev pub unit_in : Option Session → ℕ → Result (List ℕ × ℕ) Status
unit_in session unit = and_then (read_in session) (λ file. or_out_of_range (unit_at file unit))

abbrev pub hunk_in : Option Session → (unit hunk : ℕ) → Result HunkFacts Status
hunk_in session unit hunk = and_then (read_in session) (λ file. or_out_of_range (hunk_at file unit hunk))

-- one of what a hunk has
abbrev pub item_in : {T : Type 0} → (HunkFacts → List T) → Option Session → (unit hunk index : ℕ) → Result T Status
item_in items session unit hunk index = and_then (hunk_in session unit hunk) (λ facts. or_out_of_range (slice_get (items facts) index))

-- ---- what is told

-- what was asked for, with the number of a status; what was told before stays if there is none
abbrev pub Tells : {T S : Type 0} → (T → S → Type 0) → Result T Status → (old new : S) → ℕ → Type 0
Tells IsTold (Ok thing) old new code = IsTold thing new × (code ≡ status_code status.Ok)
Tells IsTold (Err error) old new code = (new ≡ old) × (code ≡ status_code error)

-- what is told is the thing itself
abbrev pub IsSame : {T : Type 0} → T → T → Type 0
IsSame thing told = told ≡ thing
