-- The numbers of statuses, reasons and kinds of memory, as C knows them: the one table of them.
use Rattle.std.specs.Prelude.{ℕ}
use Rattle.hunk_base.specs.declared.fault.Reason.{Reason}
use Rattle.hunk_base.specs.declared.fault.Reason.TheVariants.{PartialLongword, UnexpectedEnd, WrongStart, UnknownType, MisplacedType, UnsupportedBlock, UnsupportedExt, BothMemoryBits, ResidentNames, HunkTable, TooLarge, ContentTooLong, NoSuchHunk, SiteOutside, SiteOverlap, SymbolKind, TrailingData}
use Rattle.hunk_words.specs.declared.kinds.Memory.{Memory}
use Rattle.hunk_words.specs.declared.kinds.Memory.TheVariants.{Any, Chip, Fast}
use Rattle.hunk_loader.specs.declared.places.PlaceFault.{PlaceFault}
use Rattle.hunk_loader.specs.declared.places.PlaceFault.TheVariants as place
use Rattle.hunk_link.specs.declared.refusal.LinkRefusal.{LinkRefusal}
use Rattle.hunk_link.specs.declared.refusal.LinkRefusal.TheVariants as link
use Rattle.amihunk_c.specs.declared.codes.Status.{Status}
use Rattle.amihunk_c.specs.declared.codes.Status.TheVariants as status

-- ---- statuses

abbrev pub status_code : Status → ℕ
status_code status.Ok = 0
status_code status.File = 1
status_code status.WrongCount = 2
status_code status.PastEnd = 3
status_code status.Overlap = 4
status_code status.NoHunks = 5
status_code status.TooManyHunks = 6
status_code status.TooLarge = 7
status_code status.NoSuchHunk = 8
status_code status.DuplicateName = 9
status_code status.UndefinedName = 10
status_code status.OutOfMemory = 11
status_code status.WrongState = 12
status_code status.OutOfRange = 13
status_code status.NeedsBases = 14

-- the status for hunks that cannot be placed
abbrev pub place_status : PlaceFault → Status
place_status place.WrongCount = status.WrongCount
place_status (place.PastEnd hunk) = status.PastEnd
place_status (place.Overlap earlier later) = status.Overlap

-- the status for units that do not link
abbrev pub link_status : {A : Type 0} → LinkRefusal A → Status
link_status link.NoHunks = status.NoHunks
link_status link.TooManyHunks = status.TooManyHunks
link_status link.TooLarge = status.TooLarge
link_status (link.NoSuchHunk unit hunk target) = status.NoSuchHunk
link_status (link.DuplicateName unit hunk name) = status.DuplicateName
link_status (link.UndefinedName unit hunk name) = status.UndefinedName
link_status link.OutOfMemory = status.OutOfMemory

-- ---- reasons

abbrev pub reason_code : Reason → ℕ
reason_code PartialLongword = 1
reason_code UnexpectedEnd = 2
reason_code WrongStart = 3
reason_code (UnknownType type) = 4
reason_code (MisplacedType type) = 5
reason_code (UnsupportedBlock type) = 6
reason_code (UnsupportedExt type) = 7
reason_code BothMemoryBits = 8
reason_code ResidentNames = 9
reason_code HunkTable = 10
reason_code TooLarge = 11
reason_code ContentTooLong = 12
reason_code (NoSuchHunk hunk) = 13
reason_code (SiteOutside offset) = 14
reason_code (SiteOverlap offset) = 15
reason_code (SymbolKind kind) = 16
reason_code TrailingData = 17

-- the number that a reason tells, 0 if it tells none
abbrev pub reason_number : Reason → ℕ
reason_number (UnknownType type) = type
reason_number (MisplacedType type) = type
reason_number (UnsupportedBlock type) = type
reason_number (UnsupportedExt type) = type
reason_number (NoSuchHunk hunk) = hunk
reason_number (SiteOutside offset) = offset
reason_number (SiteOverlap offset) = offset
reason_number (SymbolKind kind) = kind
reason_number PartialLongword = 0
reason_number UnexpectedEnd = 0
reason_number WrongStart = 0
reason_number BothMemoryBits = 0
reason_number ResidentNames = 0
reason_number HunkTable = 0
reason_number TooLarge = 0
reason_number ContentTooLong = 0
reason_number TrailingData = 0

-- ---- kinds of memory

abbrev pub memory_code : Memory → ℕ
memory_code Any = 0
memory_code Chip = 1
memory_code Fast = 2
