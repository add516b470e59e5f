-- What has been written of a replacement, and whether a write of it failed.
use Rattle.std.specs.Io.Buffered.{writer_contents}
use Rattle.std.specs.Prelude.{◌≡◌, ℕ, List, Bool, true, false, Option, Some, None, ⊤}
use Rattle.hunk_base.specs.Watched.{inner_of, saw_failure}
use Rattle.hunk_store.specs.declared.replacement.Place.{Place}
use Rattle.hunk_store.specs.declared.replacement.Place.TheVariants.{Beside, Exhausted, InMemory, Nowhere}

-- the bytes that went to a place, if they are known
abbrev pub taken_at : {F : Type 0} (contents : F → Option (List ℕ)) → Place F → Option (List ℕ)
taken_at contents (Beside file) = writer_contents contents (inner_of file.writer)
taken_at contents (InMemory held) = Some held.bytes.items
taken_at contents (Nowhere reason) = None
taken_at contents Exhausted = None

-- a write to it failed
abbrev pub failed_at : {F : Type 0} → Place F → Bool
failed_at (Beside file) = saw_failure file.writer
failed_at (InMemory held) = held.is_exhausted
failed_at (Nowhere reason) = true
failed_at Exhausted = true

-- no write to it has failed, if it can be written to
abbrev pub IsFresh : {F : Type 0} → Place F → Type 0
IsFresh (Beside file) = saw_failure file.writer ≡ false
IsFresh (InMemory held) = held.is_exhausted ≡ false
IsFresh (Nowhere reason) = ⊤
IsFresh Exhausted = ⊤

-- the same, if there is a place yet
abbrev pub taken_in : {F : Type 0} (contents : F → Option (List ℕ)) → Option (Place F) → Option (List ℕ)
taken_in contents (Some place) = taken_at contents place
taken_in contents None = None

abbrev pub failed_in : {F : Type 0} → Option (Place F) → Bool
failed_in (Some place) = failed_at place
failed_in None = false
