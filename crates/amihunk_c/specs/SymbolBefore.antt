-- The symbol of a hunk at an offset or before it.
use Rattle.std.specs.Prelude.{◌≡◌, ℕ, ◌<◌, ◌≤◌, List, ◌∷◌, ◌++◌, Option, None, Some, Result, Ok, Err}
use Rattle.std.specs.List.{All}
use Rattle.amihunk_c.specs.Codes.{status_code}
use Rattle.amihunk_c.specs.Facts.{HunkFacts}
use Rattle.amihunk_c.specs.Told.{IsSymbolTold}
use Rattle.amihunk_c.specs.declared.codes.Status.{Status}
use Rattle.amihunk_c.specs.declared.codes.Status.TheVariants as status
use Rattle.amihunk_c.specs.declared.told.SymbolTold.{SymbolTold}

-- Of the symbols whose value is at most the offset, it has the highest value, and is the first of
-- those with this value.
pub record IsBefore (symbols : List (List ℕ × ℕ)) (offset : ℕ) (symbol : List ℕ × ℕ) : Type 0 where
  pub front : List (List ℕ × ℕ)
  pub back : List (List ℕ × ℕ)
  pub parts : symbols ≡ front ++ symbol ∷ back
  pub at_most : symbol.1 ≤ offset
  pub lower : All (λ other. other.1 ≤ offset → other.1 < symbol.1) front
  pub highest : All (λ other. other.1 ≤ offset → other.1 ≤ symbol.1) back

-- the symbol, or that none has a value of at most the offset
abbrev pub IsFound : List (List ℕ × ℕ) → ℕ → Option (List ℕ × ℕ) → Type 0
IsFound symbols offset None = All (λ other. offset < other.1) symbols
IsFound symbols offset (Some symbol) = IsBefore symbols offset symbol

-- whether a value is higher than that of a symbol, if there is one
abbrev pub IsHigher : ℕ → Option (List ℕ × ℕ) → Type 0
IsHigher value None = Unit {0}
IsHigher value (Some symbol) = symbol.1 < value

abbrev pub IsNoHigher : ℕ → Option (List ℕ × ℕ) → Type 0
IsNoHigher value None = ⊥
IsNoHigher value (Some symbol) = value ≤ symbol.1

-- It is told of a hunk that was asked for, with the number of a status; what was told before stays if
-- there is none.
pub data TellsFound (symbols : List (List ℕ × ℕ)) (offset : ℕ) (old new : SymbolTold) (code : ℕ) : Type 0 where
  found : (symbol : List ℕ × ℕ) → IsBefore symbols offset symbol → IsSymbolTold symbol new → code ≡ status_code status.Ok → TellsFound symbols offset old new code
  none : All (λ other. offset < other.1) symbols → new ≡ old → code ≡ status_code status.OutOfRange → TellsFound symbols offset old new code

abbrev pub TellsBefore : Result HunkFacts Status → ℕ → (old new : SymbolTold) → ℕ → Type 0
TellsBefore (Ok facts) offset old new code = TellsFound facts.symbols offset old new code
TellsBefore (Err error) offset old new code = (new ≡ old) × (code ≡ status_code error)
