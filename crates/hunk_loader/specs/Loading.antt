-- A load file in memory: the content of each hunk at its base, zeros after it up to the size, and
-- the base of a hunk added to the longword at each site that names it.
use Rattle.std.specs.Prelude.{◌≡◌, ℕ, ◌*◌, List, map, Option, Some, None, Result, Ok, Err, slice_index}
use Rattle.std.specs.List.{zip}
use Rattle.hunk_loadfile.specs.LoadHunk.{FileHunk}
use Rattle.hunk_loadfile.specs.Patching.{patched_bytes}
use Rattle.hunk_base.specs.declared.fault.Refusal.{Refusal}
use Rattle.hunk_base.specs.declared.fault.Refusal.TheVariants as refusal_is
use Rattle.hunk_loader.specs.declared.loading.LoadRefusal.{LoadRefusal}
use Rattle.hunk_loader.specs.declared.loading.LoadRefusal.TheVariants.{File, OutOfMemory}

-- the bytes of a hunk, if the hunks are placed at these bases
abbrev pub loaded_bytes : List ℕ → FileHunk → List ℕ
loaded_bytes bases hunk = patched_bytes (4 * hunk.size) hunk.content hunk.sites.entries (slice_index bases)

-- the base and the bytes of each hunk, in order
abbrev pub loaded : List FileHunk → List ℕ → List (ℕ × List ℕ)
loaded hunks bases = map (λ placed. (placed.0, loaded_bytes bases placed.1)) (zip bases hunks)

-- ---- refusals

-- a refusal of the bytes, as a refusal to load them
abbrev pub load_refusal : Refusal → LoadRefusal
load_refusal (refusal_is.Fault fault) = File fault
load_refusal refusal_is.OutOfMemory = OutOfMemory

abbrev pub load_refusals : Option Refusal → Option LoadRefusal
load_refusals None = None
load_refusals (Some refusal) = Some (load_refusal refusal)

-- The result is the error that is kept.
abbrev pub Keeps : {T : Type 0} → Option LoadRefusal → Result T LoadRefusal → Type 0
Keeps refusal (Ok done) = refusal ≡ None
Keeps refusal (Err e) = refusal ≡ Some e
