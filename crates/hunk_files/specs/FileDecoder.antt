-- What a decoder of files of either kind stands for, and what it means that it returned an error.
use Rattle.std.specs.Prelude.{◌≡◌, ◌⊎◌, ℕ, ◌<◌, ◌≤◌, List, [], length, take, Bool, IsTrue, Option}
use Rattle.hunk_words.specs.Decoder.{RefusesBytes}
use Rattle.hunk_words.specs.FirstOffence.{EndsEarly, OffendsAt}
use Rattle.hunk_base.specs.Longwords.{longwords, unfinished}
use Rattle.hunk_base.specs.Streams.{HasRead}
use Rattle.hunk_words.specs.declared.event.FileKind.{FileKind}
use Rattle.hunk_words.specs.declared.event.FileKind.TheVariants as kind_is
use Rattle.hunk_base.specs.declared.fault.Fault.{Fault}
use Rattle.hunk_base.specs.declared.fault.ReadFault.{ReadFault}
use Rattle.hunk_base.specs.declared.fault.ReadFault.TheVariants as read_fault
use Rattle.hunk_base.specs.declared.fault.Refusal.{Refusal}
use Rattle.hunk_base.specs.declared.fault.Refusal.TheVariants as refusal_is
use Rattle.hunk_files.specs.FileValue.{kind_of_bytes}
use Rattle.hunk_files.specs.declared.file_decoder.Decoders.{Decoders}
use Rattle.hunk_files.specs.declared.file_decoder.File.{File}
use Rattle.hunk_files.specs.declared.file_decoder.File.TheVariants.{Object, Load}
use Rattle.hunk_files.specs.declared.file_decoder.FileDecoder.{FileDecoder}

-- What was made of a file of this kind is what the decoder of that kind says of its bytes.
abbrev pub IsFileOf : {O L : Type 0} (object : O → List ℕ → Type 0) (load : L → List ℕ → Type 0) → FileKind → File O L → List ℕ → Type 0
IsFileOf object load kind_is.Object (Object value) bytes = object value bytes
IsFileOf object load kind_is.Load (Load value) bytes = load value bytes
IsFileOf object load kind file bytes = ⊥

-- what was made, where it is the same for both kinds
abbrev pub inner : {T : Type 0} → File T T → T
inner (Object value) = value
inner (Load value) = value

-- the decoder of this kind stands for the bytes
abbrev pub KindStandsFor : {O L : Type 0} (object_kind : FileKind) (object : O → List ℕ → Type 0) (load_kind : FileKind) (load : L → List ℕ → Type 0)
    → FileKind → Decoders O L → List ℕ → Type 0
KindStandsFor object_kind object load_kind load kind_is.Object decoders bytes = (object_kind ≡ kind_is.Object) × object decoders.object bytes
KindStandsFor object_kind object load_kind load kind_is.Load decoders bytes = (load_kind ≡ kind_is.Load) × load decoders.load bytes

-- what is known of bytes that the decoder of this kind took without an error
abbrev pub KindBegins : (object load : List ℕ → Type 0) → FileKind → List ℕ → Type 0
KindBegins object load kind_is.Object bytes = object bytes
KindBegins object load kind_is.Load bytes = load bytes

-- It holds the first four bytes. While there are fewer, its decoders have none; after that, the one
-- of the kind that they tell has all.
pub record StandsFor {O L : Type 0} (object_kind : FileKind) (object : O → List ℕ → Type 0) (load_kind : FileKind) (load : L → List ℕ → Type 0) (decoder : FileDecoder O L) (bytes : List ℕ) : Type 0 where
  pub front : decoder.front ≡ take 4 bytes
  pub unfed : length bytes < 4 → (kind : FileKind) → KindStandsFor object_kind object load_kind load kind decoder.decoders []
  pub fed : 4 ≤ length bytes → KindStandsFor object_kind object load_kind load (kind_of_bytes bytes) decoder.decoders bytes

-- ---- errors

-- The error is the first offence of the bytes fed, or out of memory.
abbrev pub RefusesFed : {O L : Type 0} (object_kind : FileKind) (object : O → List ℕ → Type 0) (load_kind : FileKind) (load : L → List ℕ → Type 0) → FileDecoder O L → Refusal → Type 0
RefusesFed object_kind object load_kind load decoder refusal =
    (bytes : List ℕ) → StandsFor object_kind object load_kind load decoder bytes → RefusesBytes (kind_of_bytes bytes) bytes refusal

-- What was read offends first at the place of the fault, for its reason; or the reader ended, and
-- what was read ends too early at that place, for that reason. Its kind is what its first four
-- bytes tell.
abbrev pub IsRefused : Fault → Bool → List ℕ → Type 0
IsRefused fault ended bytes =
    OffendsAt (kind_of_bytes bytes) (longwords bytes) fault.place fault.reason
    ⊎ (IsTrue ended × EndsEarly (kind_of_bytes bytes) (longwords bytes) (length (unfinished bytes)) fault.place fault.reason)

-- Why nothing was made of a file: it is rejected, or an allocation failed, or a read did.
abbrev pub IsReadFault : (left left_then : Option (List ℕ)) (failed ended : Bool) → ReadFault → Type 0
IsReadFault left left_then failed ended (read_fault.Refused (refusal_is.Fault fault)) = HasRead left left_then (IsRefused fault ended)
IsReadFault left left_then failed ended (read_fault.Refused refusal_is.OutOfMemory) = Unit {0}
IsReadFault left left_then failed ended read_fault.Device = IsTrue failed
