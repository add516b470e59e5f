-- What it means that a load file was placed at these bases and a text of it was written, or why it
-- was not: any text of its hunks and the bases, and above all its image.
use Rattle.std.specs.Prelude.{◌≡◌, ℕ, List, Bool, IsTrue, Option}
use Rattle.std.specs.Io.KnownBytes.{Appends, Keeps}
use Rattle.hunk_base.specs.Streams.{HasRead, TookFront}
use Rattle.hunk_loadfile.specs.LoadHunk.{FileHunk}
use Rattle.hunk_loadfile.specs.LoadFile.{IsLoadOf}
use Rattle.hunk_loader.specs.ImageLoader.{IsNotPlaced}
use Rattle.hunk_loader.specs.ImageReader.{IsRefused}
use Rattle.hunk_loader.specs.Loading.{loaded}
use Rattle.hunk_loader.specs.Places.{Placed}
use Rattle.hunk_loader.specs.Sizes.{sizes_of}
use Rattle.hunk_image_text.specs.ImageText.{image_text}
use Rattle.hunk_image_text.specs.declared.image_form.ImageForm.{ImageForm}
use Rattle.hunk_tool.specs.declared.tool_fault.ToolFault.{ToolFault}
use Rattle.hunk_tool.specs.declared.tool_fault.ToolFault.TheVariants.{Input, InputDevice, Link, Place, Output, OutOfMemory}

-- The bytes are the load file of these hunks, and the text of them at these placed bases was written.
pub record IsWrittenAt (text : List FileHunk → List ℕ → List ℕ) (bases : List ℕ) (old new : Option (List ℕ)) (bytes : List ℕ) : Type 0 where
  pub hunks : List FileHunk
  pub is_file : IsLoadOf hunks bytes
  pub placed : Placed (sizes_of hunks) bases
  pub written : Appends old new (text hunks bases)

-- The bytes are the load file of these hunks, and the writer took exactly the first `written` bytes
-- of the text of them at these placed bases.
pub record IsCutShortAt (text : List FileHunk → List ℕ → List ℕ) (bases : List ℕ) (old new : Option (List ℕ)) (written : ℕ) (bytes : List ℕ) : Type 0 where
  pub hunks : List FileHunk
  pub is_file : IsLoadOf hunks bytes
  pub placed : Placed (sizes_of hunks) bases
  pub front : TookFront old new (text hunks bases) written

-- what is known of a reader and a writer before and after a call: the bytes left and taken, and
-- what they report about themselves
pub record Ends : Type 0 where
  pub left : Option (List ℕ)
  pub left_then : Option (List ℕ)
  pub read_failed : Bool
  pub ended : Bool
  pub taken : Option (List ℕ)
  pub taken_then : Option (List ℕ)
  pub write_failed : Bool

abbrev pub ends_of : (left left_then : Option (List ℕ)) (read_failed ended : Bool) (taken taken_then : Option (List ℕ)) (write_failed : Bool) → Ends
ends_of left left_then read_failed ended taken taken_then write_failed =
    record { left = left; left_then = left_then; read_failed = read_failed; ended = ended; taken = taken; taken_then = taken_then; write_failed = write_failed }

-- Why the text of a file at these bases was not written, or not in full. Nothing was written before
-- the reader ended.
abbrev pub IsFaultAt : {A : Type 0} → (text : List FileHunk → List ℕ → List ℕ) → List ℕ → Ends → ToolFault A → Type 0
IsFaultAt text bases ends (Input file fault) = (file ≡ 0) × HasRead ends.left ends.left_then (IsRefused fault ends.ended) × Keeps ends.taken ends.taken_then
IsFaultAt text bases ends (InputDevice file) = (file ≡ 0) × IsTrue ends.read_failed × Keeps ends.taken ends.taken_then
IsFaultAt text bases ends (Link refusal) = ⊥
IsFaultAt text bases ends (Place fault) =
    IsTrue ends.ended × HasRead ends.left ends.left_then (λ bytes. IsNotPlaced bases bytes fault) × Keeps ends.taken ends.taken_then
IsFaultAt text bases ends (Output written) =
    IsTrue ends.ended × HasRead ends.left ends.left_then (IsCutShortAt text bases ends.taken ends.taken_then written) × IsTrue ends.write_failed
IsFaultAt text bases ends (OutOfMemory written) = (written ≡ 0) × Keeps ends.taken ends.taken_then

-- ---- the image

-- the text of the loaded image in this form
abbrev pub loaded_text : ImageForm → List FileHunk → List ℕ → List ℕ
loaded_text form hunks bases = image_text form (loaded hunks bases)

-- The bytes are a load file, and its image at these placed bases was written in this form.
abbrev pub IsReported : ImageForm → (bases : List ℕ) (old new : Option (List ℕ)) (bytes : List ℕ) → Type 0
IsReported form = IsWrittenAt (loaded_text form)

-- Why the image of a file at these bases was not written in this form, or not in full.
abbrev pub IsLoadFault : {A : Type 0} → ImageForm → List ℕ → Ends → ToolFault A → Type 0
IsLoadFault form = IsFaultAt (loaded_text form)
