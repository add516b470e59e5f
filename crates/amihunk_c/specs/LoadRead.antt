-- Loading a load file that was read.
use Rattle.std.specs.Prelude.{◌≡◌, ◌⊎◌, ℕ, List, Option, None, Some, Result, Ok, Err}
use Rattle.hunk_loadfile.specs.LoadHunk.{FileHunk}
use Rattle.hunk_loader.specs.Loading.{loaded}
use Rattle.hunk_loader.specs.Places.{Placed, IsFirstRefusal}
use Rattle.hunk_loader.specs.Sizes.{sizes_of}
use Rattle.hunk_loader.specs.declared.places.PlaceFault.{PlaceFault}
use Rattle.amihunk_c.specs.Answers.{place_answer, plain_answer}
use Rattle.amihunk_c.specs.Looked.{load_of}
use Rattle.amihunk_c.specs.declared.answer.Answer.{Answer}
use Rattle.amihunk_c.specs.declared.codes.Status.TheVariants as status
use Rattle.amihunk_c.specs.declared.session.Session.{Session}
use Rattle.amihunk_c.specs.declared.session.Session.TheVariants.{Loaded, Read}

-- the hunks of the load file that was read, if one was
abbrev pub file_in : Option Session → Option (List FileHunk)
file_in (Some (Read looked)) = load_of looked
file_in session = None

-- Why the hunks were not loaded at these bases.
pub data IsUnloaded (bases : List ℕ) (hunks : List FileHunk) (answer : Answer) : Type 0 where
  misplaced : (fault : PlaceFault) → IsFirstRefusal (sizes_of hunks) bases fault → answer ≡ place_answer fault → IsUnloaded bases hunks answer
  out_of_memory : answer ≡ plain_answer status.OutOfMemory → IsUnloaded bases hunks answer

-- the image at these bases, or why there is none
abbrev pub IsImageOf : List ℕ → List FileHunk → Result (List (ℕ × List ℕ)) Answer → Type 0
IsImageOf bases hunks (Ok image) = Placed (sizes_of hunks) bases × (image ≡ loaded hunks bases)
IsImageOf bases hunks (Err answer) = IsUnloaded bases hunks answer

abbrev pub IsLoadOf : List ℕ → Option (List FileHunk) → Result (List (ℕ × List ℕ)) Answer → Type 0
IsLoadOf bases None result = result ≡ Err (plain_answer status.WrongState)
IsLoadOf bases (Some hunks) result = IsImageOf bases hunks result

-- A handle without a session has loaded the file, or still has none; one with a session stays.
abbrev pub IsBegunLoaded : List ℕ → Option (List FileHunk) → Option Session → Answer → Type 0
IsBegunLoaded bases file None answer = IsLoadOf bases file (Err answer) ⊎ (answer ≡ plain_answer status.OutOfMemory)
IsBegunLoaded bases file (Some (Loaded image)) answer = IsLoadOf bases file (Ok image) × (answer ≡ plain_answer status.Ok)
IsBegunLoaded bases file session answer = ⊥

abbrev pub LoadsFile : List ℕ → (file old new : Option Session) → Answer → Type 0
LoadsFile bases file None new answer = IsBegunLoaded bases (file_in file) new answer
LoadsFile bases file (Some old) new answer = (new ≡ Some old) × (answer ≡ plain_answer status.WrongState)
