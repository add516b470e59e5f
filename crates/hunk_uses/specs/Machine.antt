-- What a machine is told of a program that it cannot load.
use Rattle.std.specs.Prelude.{◌≡◌, ℕ, List, ◌++◌, length, Option, Some}
use Rattle.hunk_base.specs.Longwords.{longwords, unfinished}
use Rattle.hunk_words.specs.FirstOffence.{FirstOffence}
use Rattle.hunk_words.specs.declared.event.FileKind.TheVariants.{Load}
use Rattle.hunk_loader.specs.HeaderHunks.{IsHeader, told_sizes}
use Rattle.hunk_loader.specs.Places.{IsFirstRefusal}
use Rattle.hunk_loader.specs.declared.header_hunks.HeaderHunk.{HeaderHunk}
use Rattle.hunk_loader.specs.declared.loading.LoadRefusal.{LoadRefusal}
use Rattle.hunk_loader.specs.declared.loading.LoadRefusal.TheVariants.{File, Place, OutOfMemory}
use Rattle.hunk_loader.specs.declared.places.PlaceFault.{PlaceFault}
use Rattle.hunk_uses.specs.Emulator.{bases_from}

-- the bases of the hunks of a header, once it is whole
abbrev pub AreChosen : (first : ℕ) → Option (List HeaderHunk) → (bases : List ℕ) → Type 0
AreChosen first told bases = (hunks : List HeaderHunk) → told ≡ Some hunks → bases ≡ bases_from first (told_sizes hunks)

-- The file begins with a header whose hunks cannot be placed one after another, first of all for this fault.
pub record IsMisplacedFrom (first : ℕ) (fault : PlaceFault) (file : List ℕ) : Type 0 where
  pub header : List ℕ
  pub more : List ℕ
  pub parts : file ≡ header ++ more
  pub hunks : List HeaderHunk
  pub is_header : IsHeader header hunks
  pub first_fault : IsFirstRefusal (told_sizes hunks) (bases_from first (told_sizes hunks)) fault

-- Why the program was not loaded: the file's first offence; or its hunks cannot be placed; or an allocation failed.
abbrev pub IsRejectedFrom : (first : ℕ) (file : List ℕ) → LoadRefusal → Type 0
IsRejectedFrom first file (File fault) = FirstOffence Load (longwords file) (length (unfinished file)) fault.place fault.reason
IsRejectedFrom first file (Place fault) = IsMisplacedFrom first fault file
IsRejectedFrom first file OutOfMemory = Unit {0}
