-- Why the image of a load file was not made from a reader.
use Rattle.std.specs.Prelude.{◌⊎◌, ℕ, List, length, Bool, IsTrue, Option}
use Rattle.hunk_words.specs.FirstOffence.{OffendsAt, EndsEarly}
use Rattle.hunk_base.specs.Longwords.{longwords, unfinished}
use Rattle.hunk_base.specs.Streams.{HasRead}
use Rattle.hunk_words.specs.declared.event.FileKind.TheVariants.{Load}
use Rattle.hunk_base.specs.declared.fault.Fault.{Fault}
use Rattle.hunk_base.specs.declared.fault.ReadFault.{ReadFault}
use Rattle.hunk_base.specs.declared.fault.ReadFault.TheVariants as read_fault
use Rattle.hunk_loader.specs.ImageLoader.{IsNotPlaced}
use Rattle.hunk_loader.specs.Loading.{load_refusal}
use Rattle.hunk_loader.specs.declared.image_reader.ImageFault.{ImageFault}
use Rattle.hunk_loader.specs.declared.image_reader.ImageFault.TheVariants.{Refused, Device}
use Rattle.hunk_loader.specs.declared.loading.LoadRefusal.TheVariants.{File, Place, OutOfMemory}

-- What was read offends first at the place of the fault, for its reason; or the reader ended, and
-- what was read ends too early at that place, for that reason.
abbrev pub IsRefused : Fault → Bool → List ℕ → Type 0
IsRefused fault ended bytes =
    OffendsAt Load (longwords bytes) fault.place fault.reason
    ⊎ (IsTrue ended × EndsEarly Load (longwords bytes) (length (unfinished bytes)) fault.place fault.reason)

-- What was read is refused for its first offence; or the reader ended, and the hunks of the load file that was read
-- cannot stand at the bases, first of all for this; or an allocation failed; or a read did.
abbrev pub IsImageFault : List ℕ → (left left_then : Option (List ℕ)) (failed ended : Bool) → ImageFault → Type 0
IsImageFault bases left left_then failed ended (Refused (File fault)) = HasRead left left_then (IsRefused fault ended)
IsImageFault bases left left_then failed ended (Refused (Place fault)) = IsTrue ended × HasRead left left_then (λ bytes. IsNotPlaced bases bytes fault)
IsImageFault bases left left_then failed ended (Refused OutOfMemory) = Unit {0}
IsImageFault bases left left_then failed ended Device = IsTrue failed

-- a fault of reading, as one of the image
abbrev pub image_fault : ReadFault → ImageFault
image_fault (read_fault.Refused refusal) = Refused (load_refusal refusal)
image_fault read_fault.Device = Device
