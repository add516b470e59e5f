-- What a writer over memory returns, write by write.
use Rattle.std.specs.Prelude.{◌≡◌, ℕ, ◌-◌, ◌==◌, ◌&&◌, nat_lt, min, List, [], length, Bool, false, Result, Ok, Err, if◌then◌else◌}
use Rattle.hunk_base.specs.declared.fault.DeviceFault.{DeviceFault}
use Rattle.hunk_base.specs.declared.room.Room.{Room}

-- the bytes taken so far
abbrev pub bytes_taken : {A : Type 0} → Room A → List ℕ
bytes_taken writer = writer.bytes.items

-- whether a write failed, or took nothing of one byte or more
abbrev pub has_failed : {A : Type 0} → Room A → Bool
has_failed writer = writer.failed

-- Before its first write it has taken nothing, and has these rules for its writes.
pub record IsEmpty {A : Type 0} (writer : Room A) (most room : ℕ) (zero : Bool) : Type 0 where
  pub nothing : bytes_taken writer ≡ []
  pub at_most : writer.most ≡ most
  pub in_all : writer.room ≡ room
  pub answers_zero : writer.zero ≡ zero
  pub not_failed : has_failed writer ≡ false

abbrev pub room_left : {A : Type 0} → Room A → ℕ
room_left writer = writer.room - length (bytes_taken writer)

-- If there is no room left for a byte, a write fails or takes nothing; otherwise it takes what
-- there is room for, and at most `most`.
abbrev pub answer_of : {A : Type 0} → Room A → ℕ → Result ℕ DeviceFault
answer_of writer len = if (room_left writer == 0) && nat_lt 0 len then (if writer.zero then Ok 0 else Err record {}) else Ok (min (min len (room_left writer)) writer.most)

-- A write changes no rule.
pub record KeepsRules {A : Type 0} (old new : Room A) : Type 0 where
  pub at_most : new.most ≡ old.most
  pub in_all : new.room ≡ old.room
  pub answers_zero : new.zero ≡ old.zero
