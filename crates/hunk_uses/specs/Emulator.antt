-- Where an emulator places the hunks of a program, and what it is told of one that it cannot load.
use Rattle.std.specs.Prelude.{◌≡◌, ℕ, ◌+◌, ◌-◌, ◌*◌, ◌^◌, List, [], ◌∷◌, Bool, IsTrue, Option, min}
use Rattle.hunk_words.specs.Decoder.{RefusesRead}
use Rattle.hunk_base.specs.Streams.{HasRead}
use Rattle.hunk_words.specs.declared.event.FileKind.TheVariants.{Load}
use Rattle.hunk_base.specs.declared.fault.ReadFault.TheVariants as read_fault
use Rattle.hunk_base.specs.declared.fault.Refusal.TheVariants as refusal_is
use Rattle.hunk_loadfile.specs.LoadFile.{IsLoadOf}
use Rattle.hunk_loadfile.specs.LoadHunk.{FileHunk}
use Rattle.hunk_loader.specs.Loading.{loaded}
use Rattle.hunk_loader.specs.Places.{IsFirstRefusal, Placed}
use Rattle.hunk_loader.specs.Sizes.{sizes_of}
use Rattle.hunk_loader.specs.declared.image_reader.ImageFault.{ImageFault}
use Rattle.hunk_loader.specs.declared.image_reader.ImageFault.TheVariants.{Refused, Device}
use Rattle.hunk_loader.specs.declared.loading.LoadRefusal.TheVariants.{File, Place, OutOfMemory}
use Rattle.hunk_loader.specs.declared.places.PlaceFault.{PlaceFault}

-- the bases of hunks of these sizes, in longwords, one after another; the last address where there is none left
abbrev pub bases_from : (first : ℕ) → List ℕ → List ℕ
bases_from first [] = []
bases_from first (size ∷ sizes) = first ∷ bases_from (min (first + 4 * size) (2 ^ 32 - 1)) sizes

-- The bytes are the load file of these hunks, which are placed one after another, and this is their image.
pub record IsLoadedFrom (first : ℕ) (image : List (ℕ × List ℕ)) (bytes : List ℕ) : Type 0 where
  pub hunks : List FileHunk
  pub is_file : IsLoadOf hunks bytes
  pub placed : Placed (sizes_of hunks) (bases_from first (sizes_of hunks))
  pub image_is : image ≡ loaded hunks (bases_from first (sizes_of hunks))

-- The bytes are the load file of hunks that cannot be placed one after another, first of all for this fault.
pub record IsNotPlacedFrom (first : ℕ) (fault : PlaceFault) (bytes : List ℕ) : Type 0 where
  pub hunks : List FileHunk
  pub is_file : IsLoadOf hunks bytes
  pub first_fault : IsFirstRefusal (sizes_of hunks) (bases_from first (sizes_of hunks)) fault

-- Why the program was not loaded: what was read is refused for its first offence; or its hunks cannot be placed; or an
-- allocation failed; or a read did.
abbrev pub IsNotLoadedFrom : (first : ℕ) (left left_then : Option (List ℕ)) (ended failed : Bool) → ImageFault → Type 0
IsNotLoadedFrom first left left_then ended failed (Refused (File fault)) = RefusesRead Load left left_then ended failed (read_fault.Refused (refusal_is.Fault fault))
IsNotLoadedFrom first left left_then ended failed (Refused (Place fault)) = IsTrue ended × HasRead left left_then (IsNotPlacedFrom first fault)
IsNotLoadedFrom first left left_then ended failed (Refused OutOfMemory) = Unit {0}
IsNotLoadedFrom first left left_then ended failed Device = IsTrue failed
