-- What a loader of an image stands for: the bytes that it was fed, in any pieces.
use Rattle.std.specs.Prelude.{◌≡◌, ℕ, List, length, Option, Result, Ok, Err}
use Rattle.hunk_words.specs.Decoder.{StandsFor as DecoderStandsFor, refusal_of as decoder_refusal, taker_of}
use Rattle.hunk_words.specs.DecoderCore.{fields_read}
use Rattle.hunk_words.specs.Event.{events}
use Rattle.hunk_words.specs.Files.{IsValidPrefix}
use Rattle.hunk_words.specs.FirstOffence.{FirstOffence, OffendsAt}
use Rattle.hunk_base.specs.Longwords.{longwords, unfinished}
use Rattle.hunk_words.specs.declared.event.Event.{Event}
use Rattle.hunk_words.specs.declared.event.FileKind.TheVariants.{Load}
use Rattle.hunk_base.specs.declared.fault.Refusal.{Refusal}
use Rattle.hunk_loadfile.specs.LoadFile.{IsLoadOf}
use Rattle.hunk_loadfile.specs.LoadHunk.{FileHunk}
use Rattle.hunk_loader.specs.ImageBuilder.{BuilderState, StandsFor as BuilderStandsFor}
use Rattle.hunk_loader.specs.Loading.{loaded}
use Rattle.hunk_loader.specs.Places.{Placed, IsFirstRefusal}
use Rattle.hunk_loader.specs.Loading.{load_refusals}
use Rattle.hunk_loader.specs.Sizes.{sizes_of}
use Rattle.hunk_loader.specs.declared.image_loader.ImageLoader.{ImageLoader}
use Rattle.hunk_loader.specs.declared.loading.LoadRefusal.{LoadRefusal}
use Rattle.hunk_loader.specs.declared.loading.LoadRefusal.TheVariants.{File, Place, OutOfMemory}
use Rattle.hunk_loader.specs.declared.places.PlaceFault.{PlaceFault}

-- what it holds of the hunks
abbrev pub holds_of : {A : Type 0} → ImageLoader A → BuilderState
holds_of loader = taker_of loader.decoder

-- the events of bytes
abbrev pub events_told : List ℕ → List Event
events_told bytes = events (fields_read Load (longwords bytes))

-- the bases that it was given
abbrev pub bases_of : {A : Type 0} → ImageLoader A → List ℕ
bases_of loader = (holds_of loader).bases

abbrev pub StandsFor : {A : Type 0} → ImageLoader A → List ℕ → Type 0
StandsFor loader bytes = DecoderStandsFor Load BuilderStandsFor loader.decoder bytes

-- the refusal of the file that it keeps
abbrev pub file_refusal_of : {A : Type 0} → ImageLoader A → Option Refusal
file_refusal_of loader = decoder_refusal loader.decoder

-- the same as its calls return it
abbrev pub refusal_of : {A : Type 0} → ImageLoader A → Option LoadRefusal
refusal_of loader = load_refusals (file_refusal_of loader)

-- The result of a piece after which the bytes are these: they are a valid prefix, or their
-- longwords offend here.
abbrev pub Fed : List ℕ → Result (Unit {0}) LoadRefusal → Type 0
Fed bytes (Ok done) = IsValidPrefix Load (longwords bytes)
Fed bytes (Err (File fault)) = OffendsAt Load (longwords bytes) fault.place fault.reason
Fed bytes (Err (Place fault)) = ⊥
Fed bytes (Err OutOfMemory) = Unit {0}

-- The bytes are a load file whose hunks are placed at the bases, and this is its image.
pub record LoadsAs (bases bytes : List ℕ) (image : List (ℕ × List ℕ)) : Type 0 where
  pub hunks : List FileHunk
  pub is_file : IsLoadOf hunks bytes
  pub placed : Placed (sizes_of hunks) bases
  pub image_is : image ≡ loaded hunks bases

-- The bytes are a load file whose hunks cannot be placed at the bases, with this as the first
-- fault.
pub record IsNotPlaced (bases bytes : List ℕ) (fault : PlaceFault) : Type 0 where
  pub hunks : List FileHunk
  pub is_file : IsLoadOf hunks bytes
  pub first : IsFirstRefusal (sizes_of hunks) bases fault

-- The result at the end of the bytes: what is wrong with the file comes before what is wrong with
-- the bases.
abbrev pub Finished : List ℕ → List ℕ → Result (List (ℕ × List ℕ)) LoadRefusal → Type 0
Finished bases bytes (Ok image) = LoadsAs bases bytes image
Finished bases bytes (Err (File fault)) = FirstOffence Load (longwords bytes) (length (unfinished bytes)) fault.place fault.reason
Finished bases bytes (Err (Place fault)) = IsNotPlaced bases bytes fault
Finished bases bytes (Err OutOfMemory) = Unit {0}
