-- What a loaded file is in memory, address by address.
use Rattle.std.specs.Prelude.{◌≡◌, ◌↔◌, ◌⊎◌, ℕ, ◌+◌, ◌*◌, ◌^◌, ◌<◌, List, map, Some, None, slice_get, slice_index, EachIndex}
use Rattle.hunk_loadfile.specs.LoadHunk.{FileHunk}
use Rattle.hunk_loadfile.specs.Meaning.{meaning}
use Rattle.hunk_loadfile.specs.NormalForm.{normal_form}
use Rattle.hunk_loadfile.specs.Patching.{patched}
use Rattle.hunk_loadfile.specs.Rules.{IsLoadFile}
use Rattle.hunk_loadfile.specs.Stripping.{stripped}
use Rattle.hunk_loadfile.specs.Trimming.{trimmed}
use Rattle.hunk_loader.specs.Image.{memory_map}
use Rattle.hunk_loader.specs.Loading.{loaded}
use Rattle.hunk_loader.specs.Places.{Placed, Takes, IsFirstRefusal}
use Rattle.hunk_loader.specs.Sizes.{sizes_of}
use Rattle.hunk_loader.specs.declared.places.PlaceFault.{PlaceFault}

-- byte i of a hunk is at its base plus i
abbrev pub HunkIsLoaded : Type 0
HunkIsLoaded =
    (hunks : List FileHunk) (bases : List ℕ) (number i : ℕ) (hunk : FileHunk) → Placed (sizes_of hunks) bases → slice_get hunks number ≡ Some hunk → i < 4 * hunk.size
    → memory_map (loaded hunks bases) (slice_index bases number + i) ≡ Some (patched hunk.content hunk.sites.entries (slice_index bases) i)

-- and there is nothing at an address that no hunk takes
abbrev pub NothingElseIsLoaded : Type 0
NothingElseIsLoaded =
    (hunks : List FileHunk) (bases : List ℕ) (address : ℕ) → ((number : ℕ) → ¬ Takes (sizes_of hunks) bases number address)
    → memory_map (loaded hunks bases) address ≡ None

-- Trimming changes no byte in memory, whatever the bases are,
abbrev pub TrimmedIsLoaded : Type 0
TrimmedIsLoaded = (hunks : List FileHunk) (bases : List ℕ) → loaded (trimmed hunks) bases ≡ loaded hunks bases

-- and no size, so the same bases are allowed.
abbrev pub TrimmedHasSizes : Type 0
TrimmedHasSizes = (hunks : List FileHunk) → sizes_of (trimmed hunks) ≡ sizes_of hunks

-- The same holds of what is stripped,
abbrev pub StrippedIsLoaded : Type 0
StrippedIsLoaded = (hunks : List FileHunk) (bases : List ℕ) → loaded (stripped hunks) bases ≡ loaded hunks bases

abbrev pub StrippedHasSizes : Type 0
StrippedHasSizes = (hunks : List FileHunk) → sizes_of (stripped hunks) ≡ sizes_of hunks

-- and of what is in normal form.
abbrev pub NormalIsLoaded : Type 0
NormalIsLoaded = (hunks : List FileHunk) (bases : List ℕ) → loaded (normal_form hunks) bases ≡ loaded hunks bases

abbrev pub NormalHasSizes : Type 0
NormalHasSizes = (hunks : List FileHunk) → sizes_of (normal_form hunks) ≡ sizes_of hunks

-- what a hunk is before it is placed: its bytes up to its size, and its sites
abbrev pub before_placing : FileHunk → List ℕ × List (ℕ × ℕ)
before_placing hunk = ((meaning hunk).bytes, (meaning hunk).sites)

-- Two load files whose hunks have the same sizes load to the same memory, wherever the hunks are placed,
-- exactly if the hunks are the same before they are placed.
abbrev pub SameMemoryTellsHunks : Type 0
SameMemoryTellsHunks =
    (first second : List FileHunk) → IsLoadFile first → IsLoadFile second → sizes_of first ≡ sizes_of second
    → ((bases : List ℕ) → Placed (sizes_of first) bases → loaded first bases ≡ loaded second bases) ↔ (map before_placing first ≡ map before_placing second)

-- Hunks are placed at addresses, or there is a first fault.
abbrev pub PlacedOrRefused : Type 0
PlacedOrRefused =
    (sizes bases : List ℕ) → EachIndex bases (λ hunk. slice_index bases hunk < 2 ^ 32)
    → Placed sizes bases ⊎ ((fault : PlaceFault) × IsFirstRefusal sizes bases fault)
