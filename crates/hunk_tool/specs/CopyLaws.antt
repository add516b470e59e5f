-- Laws about copies of load files, and about how two of them compare.
use Rattle.std.specs.Prelude.{◌≡◌, ◌↔◌, ℕ, List, [], map, Bool, true, false}
use Rattle.hunk_loadfile.specs.InfoDifference.{info}
use Rattle.hunk_loadfile.specs.LoadFile.{IsLoadOf}
use Rattle.hunk_loadfile.specs.LoadHunk.{FileHunk}
use Rattle.hunk_loadfile.specs.Meaning.{MeansTheSame}
use Rattle.hunk_loadfile.specs.Rules.{IsLoadFile}
use Rattle.hunk_loader.specs.Loading.{loaded}
use Rattle.hunk_loader.specs.Sizes.{sizes_of}
use Rattle.hunk_tool.specs.Compare.{comparison, is_same}
use Rattle.hunk_tool.specs.Copy.{CopyFits, copied, copied_bytes}
use Rattle.hunk_tool.specs.declared.copy.CopyForm.{CopyForm}
use Rattle.hunk_tool.specs.declared.copy.CopyForm.TheVariants.{Normal}

-- ---- copies

-- A copy that fits is read back as what it is of the file,
abbrev pub CopyIsLoad : Type 0
CopyIsLoad =
    (form : CopyForm) (hunks : List FileHunk) → IsLoadFile hunks → CopyFits form hunks
    → IsLoadOf (copied form hunks) (copied_bytes form hunks)

-- and as nothing else.
abbrev pub CopyIsOneLoad : Type 0
CopyIsOneLoad =
    (form : CopyForm) (hunks other : List FileHunk) → IsLoadFile hunks → CopyFits form hunks
    → IsLoadOf other (copied_bytes form hunks) → other ≡ copied form hunks

-- It means the same as the file,
abbrev pub CopyMeansTheSame : Type 0
CopyMeansTheSame = (form : CopyForm) (hunks : List FileHunk) → MeansTheSame (copied form hunks) hunks

-- so it has the memory of the file, whatever the bases are,
abbrev pub CopyIsLoaded : Type 0
CopyIsLoaded = (form : CopyForm) (hunks : List FileHunk) (bases : List ℕ) → loaded (copied form hunks) bases ≡ loaded hunks bases

-- and the same bases are allowed.
abbrev pub CopyHasSizes : Type 0
CopyHasSizes = (form : CopyForm) (hunks : List FileHunk) → sizes_of (copied form hunks) ≡ sizes_of hunks

-- Copying a copy in its form changes no byte.
abbrev pub CopiedOnce : Type 0
CopiedOnce = (form : CopyForm) (hunks : List FileHunk) → copied_bytes form (copied form hunks) ≡ copied_bytes form hunks

-- Two load files mean the same exactly if their normal forms are the same bytes.
abbrev pub NormalBytesTellMeaning : Type 0
NormalBytesTellMeaning =
    (first second : List FileHunk) → IsLoadFile first → IsLoadFile second
    → (copied_bytes Normal first ≡ copied_bytes Normal second) ↔ MeansTheSame first second

-- ---- comparisons

-- No difference is found exactly if two load files mean the same,
abbrev pub SameMeansTheSame : Type 0
SameMeansTheSame =
    (first second : List FileHunk) → IsLoadFile first → IsLoadFile second
    → (is_same false first second ≡ true) ↔ MeansTheSame first second

-- or, where symbols count, if they have the same symbols and debug blocks too.
abbrev pub SameHasTheSameInfo : Type 0
SameHasTheSameInfo =
    (first second : List FileHunk) → IsLoadFile first → IsLoadFile second
    → (is_same true first second ≡ true) ↔ (MeansTheSame first second × (map info first ≡ map info second))

-- Nothing is written exactly if no difference is found.
abbrev pub NothingIsTold : Type 0
NothingIsTold =
    (with_symbols : Bool) (first second : List FileHunk)
    → (comparison with_symbols first second ≡ []) ↔ (is_same with_symbols first second ≡ true)
