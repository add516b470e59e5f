-- What a program that is loaded while its file comes stands for.
use Rattle.std.specs.Prelude.{◌≡◌, ℕ, ◌+◌, ◌<◌, ◌^◌, List, [], ◌++◌, length, Option, Some, None, Result, Ok, Err}
use Rattle.hunk_base.specs.Longwords.{longwords, unfinished}
use Rattle.hunk_base.specs.declared.fault.Refusal.{Refusal}
use Rattle.hunk_words.specs.Decoder.{RefusesBytes}
use Rattle.hunk_words.specs.FirstOffence.{FirstOffence}
use Rattle.hunk_words.specs.declared.event.FileKind.TheVariants.{Load}
use Rattle.hunk_loader.specs.HeaderHunks.{IsHeader, told_sizes}
use Rattle.hunk_loader.specs.ImageLoader.{Fed, StandsFor as LoaderStandsFor, bases_of, refusal_of}
use Rattle.hunk_loader.specs.declared.header_hunks.HeaderHunk.{HeaderHunk}
use Rattle.hunk_loader.specs.declared.image_loader.ImageLoader.{ImageLoader}
use Rattle.hunk_loader.specs.declared.loading.LoadRefusal.{LoadRefusal}
use Rattle.hunk_loader.specs.declared.loading.LoadRefusal.TheVariants.{File, Place, OutOfMemory}
use Rattle.hunk_uses.specs.Emulator.{IsLoadedFrom, IsNotPlacedFrom, bases_from}
use Rattle.hunk_uses.specs.declared.boot.Boot.{Boot}
use Rattle.hunk_uses.specs.declared.boot.Front.{Front}
use Rattle.hunk_uses.specs.declared.boot.Stage.{Stage}
use Rattle.hunk_uses.specs.declared.boot.Stage.TheVariants.{Header, Loading, Refused}

-- ---- the header

-- The bytes are kept, and are the beginning of a header that is not whole. No file has more.
pub record IsFront (front : Front) (bytes : List ℕ) : Type 0 where
  pub read : front.header.bytes ≡ bytes
  pub kept : front.bytes.items ≡ bytes
  pub begun : front.header.hunks ≡ None
  pub none : front.header.refusal ≡ None
  pub few : length bytes < 2 ^ 30 + 4

-- ---- the loader

-- The bytes begin with a header that chooses these bases.
pub record IsBased (first : ℕ) (bases bytes : List ℕ) : Type 0 where
  pub header : List ℕ
  pub more : List ℕ
  pub parts : bytes ≡ header ++ more
  pub hunks : List HeaderHunk
  pub is_header : IsHeader header hunks
  pub bases_are : bases ≡ bases_from first (told_sizes hunks)

-- A loader at these bases stands for the bytes, which it took; or they are refused.
abbrev pub Starts : {A : Type 0} → (bases bytes : List ℕ) → Result (ImageLoader A) LoadRefusal → Type 0
Starts bases bytes (Ok loader) = LoaderStandsFor loader bytes × (bases_of loader ≡ bases)
Starts bases bytes (Err refusal) = Fed bytes (Err refusal)

-- What has come of a file, whose header is not whole, or chose the bases of a loader; or it is refused.
abbrev pub FrontFed : {A : Type 0} → (first : ℕ) → Front → (bytes : List ℕ) → Result (Option (ImageLoader A)) LoadRefusal → Type 0
FrontFed first front bytes (Ok None) = IsFront front bytes
FrontFed first front bytes (Ok (Some loader)) = LoaderStandsFor loader bytes × IsBased first (bases_of loader) bytes
FrontFed first front bytes (Err refusal) = Fed bytes (Err refusal)

-- the loader keeps no error
abbrev pub IsUnrefused : {A : Type 0} → Option (ImageLoader A) → Type 0
IsUnrefused None = Unit {0}
IsUnrefused (Some loader) = refusal_of loader ≡ None

-- ---- the file

abbrev pub StageStandsFor : (first : ℕ) → Stage → List ℕ → Type 0
StageStandsFor first (Header front) bytes = IsFront front bytes
StageStandsFor first (Loading loader) bytes = LoaderStandsFor loader bytes × IsBased first (bases_of loader) bytes
StageStandsFor first (Refused refusal) bytes = RefusesBytes Load bytes refusal

abbrev pub StandsFor : Boot → List ℕ → Type 0
StandsFor boot bytes = StageStandsFor boot.first boot.stage bytes

-- The error is the first offence of the bytes fed, or out of memory.
abbrev pub RefusesFed : Boot → Refusal → Type 0
RefusesFed boot refusal = (bytes : List ℕ) → StandsFor boot bytes → RefusesBytes Load bytes refusal

-- before the first byte
abbrev pub Begins : (first : ℕ) → Boot → Type 0
Begins first boot = StandsFor boot [] × (boot.first ≡ first)

-- What is told of a whole file: what is wrong with it comes before what is wrong with the bases.
abbrev pub IsToldFrom : (first : ℕ) (bytes : List ℕ) → Result (List (ℕ × List ℕ)) LoadRefusal → Type 0
IsToldFrom first bytes (Ok image) = IsLoadedFrom first image bytes
IsToldFrom first bytes (Err (File fault)) = FirstOffence Load (longwords bytes) (length (unfinished bytes)) fault.place fault.reason
IsToldFrom first bytes (Err (Place fault)) = IsNotPlacedFrom first fault bytes
IsToldFrom first bytes (Err OutOfMemory) = Unit {0}
