-- What a refusal says of what was read.
use Rattle.std.proofs.Common.{◌≡◌, ℕ, List, length, Option, Some, Err, Bool, IsTrue, inl, inr}
use Rattle.hunk_words.specs.DecoderCore.{kept}
use Rattle.hunk_words.specs.FirstOffence.{FirstOffence}
use Rattle.hunk_words.specs.FirstOffence.FirstOffence.{longword_offends, end_offends}
use Rattle.hunk_base.specs.Longwords.{longwords, unfinished}
use Rattle.hunk_base.specs.Streams.{HasRead, ReadStopped}
use Rattle.hunk_words.specs.declared.event.FileKind.TheVariants.{Load}
use Rattle.hunk_base.specs.declared.fault.ReadFault.{ReadFault}
use Rattle.hunk_base.specs.declared.fault.ReadFault.TheVariants as read_fault
use Rattle.hunk_base.specs.declared.fault.Refusal.TheVariants as refusal_is
use Rattle.hunk_base.proofs.StreamsLemmas.{HasRead-weaker}
use Rattle.hunk_loader.specs.ImageLoader.{Finished, StandsFor}
use Rattle.hunk_loader.specs.ImageReader.{IsImageFault, IsRefused, image_fault}
use Rattle.hunk_loader.specs.declared.image_loader.ImageLoader.{ImageLoader}
use Rattle.hunk_loader.specs.declared.image_reader.ImageFault.TheVariants.{Refused}
use Rattle.hunk_loader.specs.declared.loading.LoadRefusal.{LoadRefusal}
use Rattle.hunk_loader.specs.declared.loading.LoadRefusal.TheVariants.{File, Place, OutOfMemory}

-- Reading stopped: the loader that keeps a fault was fed its first offence, or a read failed.
pub IsImageFault-stopped : {A : Type 0} (loader : ImageLoader A) (bases : List ℕ) (left left_then : Option (List ℕ)) (failed ended : Bool) (fault : ReadFault)
    → ReadStopped left left_then failed (StandsFor loader) (λ refusal. kept loader.decoder.core ≡ Some refusal) fault
    → IsImageFault bases left left_then failed ended (image_fault fault)
IsImageFault-stopped loader bases left left_then failed ended (read_fault.Refused (refusal_is.Fault fault)) stopped =
    HasRead-weaker left left_then (StandsFor loader) (IsRefused fault ended) (λ bytes stands. inl (stands.core.faulty fault stopped.1)) stopped.0
IsImageFault-stopped loader bases left left_then failed ended (read_fault.Refused refusal_is.OutOfMemory) stopped = tt
IsImageFault-stopped loader bases left left_then failed ended read_fault.Device stopped = stopped

-- The outcome at the end of what was read.
pub IsImageFault-end : {A : Type 0} (loader : ImageLoader A) (refusal : LoadRefusal) (bases : List ℕ) (left left_then : Option (List ℕ)) (failed ended : Bool)
    → HasRead left left_then (StandsFor loader) → IsTrue ended → ((bytes : List ℕ) → StandsFor loader bytes → Finished bases bytes (Err refusal))
    → IsImageFault bases left left_then failed ended (Refused refusal)
IsImageFault-end loader (File fault) bases left left_then failed ended read at_end answer =
    HasRead-weaker left left_then (StandsFor loader) (IsRefused fault ended) (λ bytes stands. refused bytes (answer bytes stands)) read
  where
    refused : (bytes : List ℕ) → FirstOffence Load (longwords bytes) (length (unfinished bytes)) fault.place fault.reason → IsRefused fault ended bytes
    refused bytes (longword_offends offends) = inl offends
    refused bytes (end_offends early) = inr (at_end, early)
IsImageFault-end loader (Place fault) bases left left_then failed ended read at_end answer =
    (at_end, HasRead-weaker left left_then (StandsFor loader) _ answer read)
IsImageFault-end loader OutOfMemory bases left left_then failed ended read at_end answer = tt
