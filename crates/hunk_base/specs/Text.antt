-- What a text on its way to a writer has been given.
use Rattle.std.specs.Prelude.{◌≡◌, ℕ, ◌-◌, ◌^◌, ◌≤◌, List, [], ◌∷◌, ◌++◌, length, take, min, Bool, false, ◌||◌, Option}
use Rattle.std.specs.Io.KnownBytes.{Appends}
use Rattle.hunk_base.specs.declared.text.Text.{Text}

-- a line: its text, and one newline byte
abbrev pub line : List ℕ → List ℕ
line text = text ++ 10 ∷ []

-- a count of bytes, which stops at the largest that there is
abbrev pub counted_to : ℕ → ℕ
counted_to count = min count (2 ^ 64 - 1)

-- The text was given these bytes, one piece after another, since its writer was `start`: the writer
-- has taken their first `front`, which are counted, and all of them unless it has stopped.
pub record Holds {W : Type 0} (taken : W → Option (List ℕ)) (failed : W → Bool) (start : W) (text : Text W) (bytes : List ℕ) : Type 0 where
  pub front : ℕ
  pub within : front ≤ length bytes
  pub counted : text.taken ≡ counted_to front
  pub moved : Appends (taken start) (taken text.writer.now) (take front bytes)
  pub fails : failed text.writer.now ≡ (text.stopped || failed start)
  pub whole : text.stopped ≡ false → front ≡ length bytes

-- The text was given one more piece, whatever it had been given before.
pub record Puts {W : Type 0} (taken : W → Option (List ℕ)) (failed : W → Bool) (old new : Text W) (piece : List ℕ) : Type 0 where
  pub same : new.writer.ghost_name ≡ old.writer.ghost_name
  pub adds : (start : W) (bytes : List ℕ) → Holds taken failed start old bytes → Holds taken failed start new (bytes ++ piece)

-- The text was given the first bytes of a piece, whose rest could not be made, since an allocation
-- failed.
pub record PutsFront {W : Type 0} (taken : W → Option (List ℕ)) (failed : W → Bool) (old new : Text W) (piece : List ℕ) : Type 0 where
  pub front : ℕ
  pub within : front ≤ length piece
  pub puts : Puts taken failed old new (take front piece)
