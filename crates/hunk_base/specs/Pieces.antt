-- What a reader over memory returns, read by read.
use Rattle.std.specs.Prelude.{◌≡◌, ℕ, ◌+◌, ◌-◌, ◌^◌, ◌==◌, min, List, length, drop, Bool, false, Option, Some, None, Result, Ok, Err, if◌then◌else◌}
use Rattle.hunk_base.specs.declared.fault.DeviceFault.{DeviceFault}
use Rattle.hunk_base.specs.declared.pieces.Pieces.{Pieces}

-- the bytes that have not been read yet
abbrev pub bytes_left : {A : Type 0} → Pieces A → List ℕ
bytes_left pieces = drop pieces.position pieces.bytes.items

-- whether a read failed
abbrev pub has_failed : {A : Type 0} → Pieces A → Bool
has_failed pieces = pieces.failed

-- whether a read met the end
abbrev pub has_ended : {A : Type 0} → Pieces A → Bool
has_ended pieces = pieces.ended

-- Before its first read it has all of these bytes, and these rules for its reads.
pub record IsFresh {A : Type 0} (pieces : Pieces A) (bytes : List ℕ) (most : ℕ) (fails_at : Option ℕ) : Type 0 where
  pub all : bytes_left pieces ≡ bytes
  pub at_most : pieces.most ≡ most
  pub fails : pieces.fails_at ≡ fails_at
  pub no_reads : pieces.reads ≡ 0
  pub not_failed : has_failed pieces ≡ false
  pub not_ended : has_ended pieces ≡ false

abbrev pub is_number : Option ℕ → ℕ → Bool
is_number None reads = false
is_number (Some number) reads = number == reads

-- A read fails if it has the number of the one to fail; otherwise it returns as many bytes as there
-- are, as there is room for, and at most `most`.
abbrev pub answer_of : {A : Type 0} → Pieces A → ℕ → Result ℕ DeviceFault
answer_of pieces room = if is_number pieces.fails_at pieces.reads then Err record {} else Ok (min (min room (length (bytes_left pieces))) pieces.most)

-- A read is counted, and changes no rule.
pub record IsCounted {A : Type 0} (old new : Pieces A) : Type 0 where
  pub reads : new.reads ≡ min (old.reads + 1) (2 ^ 64 - 1)
  pub at_most : new.most ≡ old.most
  pub fails : new.fails_at ≡ old.fails_at
