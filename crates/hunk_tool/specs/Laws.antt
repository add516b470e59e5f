-- Laws about the outcomes of what was read: one of them holds, and no other.
use Rattle.std.specs.Prelude.{◌≡◌, ◌⊎◌, List, [], ℕ, ◌^◌, ◌<◌, ◌++◌, Bool, true, IsTrue, Option, slice_index, EachIndex}
use Rattle.std.specs.List.{All}
use Rattle.hunk_base.specs.declared.fault.Fault.{Fault}
use Rattle.hunk_loadfile.specs.LoadHunk.{FileHunk}
use Rattle.hunk_loadfile.specs.LoadFile.{IsLoadOf}
use Rattle.hunk_loader.specs.ImageLoader.{IsNotPlaced, LoadsAs}
use Rattle.hunk_loader.specs.declared.places.PlaceFault.{PlaceFault}
use Rattle.hunk_loader.specs.ImageReader.{IsRefused}
use Rattle.hunk_files.specs.FileDecoder.{IsRefused as IsFileRefused}
use Rattle.hunk_files.specs.FileValue.{FileValue, IsOfItsKind}
use Rattle.hunk_tool.specs.Load.{IsReported}
use Rattle.hunk_image_text.specs.declared.image_form.ImageForm.{ImageForm}

-- What is rejected is not the beginning of a load file, and not one if it is rejected at its end.
abbrev pub RefusedBeginsNone : Type 0
RefusedBeginsNone =
    (fault : Fault) (ended : Bool) (hunks : List FileHunk) (bytes more : List ℕ) → IsRefused fault ended bytes → (IsTrue ended → more ≡ []) → IsLoadOf hunks (bytes ++ more) → ⊥

-- What was read is rejected for one fault.
abbrev pub RefusedForOne : Type 0
RefusedForOne = (fault other : Fault) (ended also_ended : Bool) (bytes : List ℕ) → IsRefused fault ended bytes → IsRefused other also_ended bytes → fault ≡ other

-- What is written, in any form, has hunks that are placed, and is not rejected for its bases.
abbrev pub ReportedIsPlaced : Type 0
ReportedIsPlaced =
    (form : ImageForm) (bases : List ℕ) (old new : Option (List ℕ)) (fault : PlaceFault) (bytes : List ℕ)
    → IsReported form bases old new bytes → IsNotPlaced bases bytes fault → ⊥

-- Bases are rejected for one fault.
abbrev pub NotPlacedForOne : Type 0
NotPlacedForOne = (bases bytes : List ℕ) (fault other : PlaceFault) → IsNotPlaced bases bytes fault → IsNotPlaced bases bytes other → fault ≡ other

-- What was read up to a reader's end is a load file whose hunks are placed, or one whose hunks
-- cannot be placed, or it is rejected.
abbrev pub HasOutcome : (bases bytes : List ℕ) → Type 0
HasOutcome bases bytes =
    ((image : List (ℕ × List ℕ)) × LoadsAs bases bytes image)
    ⊎ (((fault : PlaceFault) × IsNotPlaced bases bytes fault) ⊎ ((fault : Fault) × IsRefused fault true bytes))

-- There is always an outcome, for bases that are addresses.
abbrev pub OutcomeExists : Type 0
OutcomeExists = (bases bytes : List ℕ) → All (λ b. b < 256) bytes → EachIndex bases (λ hunk. slice_index bases hunk < 2 ^ 32) → HasOutcome bases bytes

-- ---- files of either kind

-- What was read up to a reader's end is a file of the kind that its first four bytes tell, or it is
-- rejected.
abbrev pub FileOrFault : Type 0
FileOrFault = (bytes : List ℕ) → All (λ b. b < 256) bytes → ((value : FileValue) × IsOfItsKind value bytes) ⊎ ((fault : Fault) × IsFileRefused fault true bytes)

-- What is rejected is no file of its kind.
abbrev pub FaultyIsNoFile : Type 0
FaultyIsNoFile = (fault : Fault) (ended : Bool) (value : FileValue) (bytes : List ℕ) → IsFileRefused fault ended bytes → IsOfItsKind value bytes → ⊥

-- A file has one value.
abbrev pub FileHasOneValue : Type 0
FileHasOneValue = (one other : FileValue) (bytes : List ℕ) → IsOfItsKind one bytes → IsOfItsKind other bytes → one ≡ other

-- What is rejected is rejected for one fault.
abbrev pub FaultIsOne : Type 0
FaultIsOne = (fault other : Fault) (ended also_ended : Bool) (bytes : List ℕ) → IsFileRefused fault ended bytes → IsFileRefused other also_ended bytes → fault ≡ other
