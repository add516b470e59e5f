-- What a loader of a header stands for: the bytes that it took.
use Rattle.std.specs.Prelude.{◌≡◌, ℕ, ◌≤◌, List, ◌++◌, length, map, take, Option, Some, None, Result, Ok, Err, Vec}
use Rattle.hunk_base.specs.Longwords.{longwords}
use Rattle.hunk_words.specs.Files.{IsValidPrefix}
use Rattle.hunk_words.specs.declared.event.FileKind.TheVariants.{Load}
use Rattle.hunk_loadfile.specs.LoadFile.{IsLoadOf}
use Rattle.hunk_loadfile.specs.LoadHunk.{FileHunk}
use Rattle.hunk_loader.specs.HeaderBytes.{Holds}
use Rattle.hunk_loader.specs.HeaderHunks.{HeaderRead, told_of, told_sizes}
use Rattle.hunk_loader.specs.ImageLoader.{Fed, IsNotPlaced}
use Rattle.hunk_loader.specs.Places.{Placed, IsFirstRefusal}
use Rattle.hunk_loader.specs.declared.header_bytes.HeaderBytes.{HeaderBytes}
use Rattle.hunk_loader.specs.declared.header_hunks.HeaderHunk.{HeaderHunk}
use Rattle.hunk_loader.specs.declared.loading.LoadRefusal.{LoadRefusal}
use Rattle.hunk_loader.specs.declared.places.PlaceFault.{PlaceFault}

-- The bytes that it took, the hunks of the header once it is whole, and the error that it keeps.
pub record HeaderState : Type 0 where
  pub bytes : List ℕ
  pub hunks : Option (List HeaderHunk)
  pub refusal : Option LoadRefusal

abbrev pub hunks_told : {A : Type 0} → Option (Vec HeaderHunk A) → Option (List HeaderHunk)
hunks_told None = None
hunks_told (Some hunks) = Some hunks.items

-- Without an error, the bytes are what it tells of them; with one, it tells of no hunks.
abbrev pub IsSound : {A : Type 0} → HeaderBytes A → Option (List HeaderHunk) → Option LoadRefusal → Type 0
IsSound header hunks None = Holds header header.bytes.items × HeaderRead header.bytes.items hunks
IsSound header hunks (Some refusal) = hunks ≡ None

-- ---- a piece

-- This many bytes of the piece were taken: all, unless the header is whole with them.
pub record HasTaken (piece : List ℕ) (taken : ℕ) (old new : HeaderState) : Type 0 where
  pub within : taken ≤ length piece
  pub bytes : new.bytes ≡ old.bytes ++ take taken piece
  pub begins : IsValidPrefix Load (longwords new.bytes)
  pub header : HeaderRead new.bytes new.hunks
  pub goes_on : new.hunks ≡ None → taken ≡ length piece

-- So many were taken; or the bytes with the piece are refused, as a loader of the whole file
-- refuses them.
abbrev pub TakesPiece : List ℕ → (old new : HeaderState) → Result ℕ LoadRefusal → Type 0
TakesPiece piece old new (Ok taken) = HasTaken piece taken old new
TakesPiece piece old new (Err refusal) = Fed (old.bytes ++ piece) (Err refusal) × (new.hunks ≡ None)

-- The result is the error that is kept.
abbrev pub Keeps : Option LoadRefusal → Result ℕ LoadRefusal → Type 0
Keeps refusal (Ok taken) = refusal ≡ None
Keeps refusal (Err e) = refusal ≡ Some e

-- what is made of a piece, before the loader keeps it
abbrev pub ReadsHeader : {A : Type 0} → (bytes piece : List ℕ) → HeaderBytes A → Result (ℕ × Option (Vec HeaderHunk A)) LoadRefusal → Type 0
ReadsHeader bytes piece header (Ok told) =
    (told.0 ≤ length piece)
    × Holds header (bytes ++ take told.0 piece)
    × HeaderRead (bytes ++ take told.0 piece) (hunks_told told.1)
    × (hunks_told told.1 ≡ None → told.0 ≡ length piece)
ReadsHeader bytes piece header (Err refusal) = Fed (bytes ++ piece) (Err refusal)

-- ---- the hunks

-- They are those of every load file that begins with these bytes.
abbrev pub AreOfFile : List HeaderHunk → List ℕ → Type 0
AreOfFile hunks bytes = (file : List FileHunk) (more : List ℕ) → IsLoadOf file (bytes ++ more) → hunks ≡ map told_of file

-- They can be placed at these bases, or not, first of all for this.
abbrev pub CanPlace : List ℕ → Option (List HeaderHunk) → Type 0
CanPlace bases None = ⊥
CanPlace bases (Some hunks) = Placed (told_sizes hunks) bases

abbrev pub CannotPlace : List ℕ → PlaceFault → Option (List HeaderHunk) → Type 0
CannotPlace bases fault None = ⊥
CannotPlace bases fault (Some hunks) = IsFirstRefusal (told_sizes hunks) bases fault

-- No load file that begins with these bytes has hunks that cannot be placed at these bases.
abbrev pub StaysPlaced : (bases bytes : List ℕ) → Type 0
StaysPlaced bases bytes = (more : List ℕ) (fault : PlaceFault) → IsNotPlaced bases (bytes ++ more) fault → ⊥
