-- One more symbol, after those that were looked at.
use Rattle.std.proofs.Common.{ℕ, ◌<◌, ◌≤◌, List, [], ◌∷◌, ◌++◌, Option, Some, None, append_assoc, refl, ap, ◌∙◌, arith}
use Rattle.std.proofs.lemmas.List.Elements.{All-append, All-cons, All-nil, All-push, All-same, All-weaker}
use Rattle.std.specs.List.{All}
use Rattle.amihunk_c.specs.SymbolBefore.{IsBefore, IsFound, IsHigher, IsNoHigher}

-- its value is past the offset
none-past : (symbols : List (List ℕ × ℕ)) (offset : ℕ) (symbol : List ℕ × ℕ) → All (λ other. offset < other.1) symbols → offset < symbol.1
    → All (λ other. offset < other.1) (symbols ++ symbol ∷ [])
none-past symbols offset symbol none past = All-push (λ other. offset < other.1) symbols symbol none past

-- it is no higher than the one that was found
found-kept : (symbols : List (List ℕ × ℕ)) (offset : ℕ) (found symbol : List ℕ × ℕ) → IsBefore symbols offset found → (symbol.1 ≤ offset → symbol.1 ≤ found.1)
    → IsBefore (symbols ++ symbol ∷ []) offset found
found-kept symbols offset found symbol before lower =
    record {
      front = before.front;
      back = before.back ++ symbol ∷ [];
      parts = ap (λ front. front ++ symbol ∷ []) before.parts ∙ append_assoc before.front (found ∷ before.back) (symbol ∷ []);
      at_most = before.at_most;
      lower = before.lower;
      highest = All-push (λ other. other.1 ≤ offset → other.1 ≤ found.1) before.back symbol before.highest lower;
    }

-- it is the first whose value is at most the offset
found-first : (symbols : List (List ℕ × ℕ)) (offset : ℕ) (symbol : List ℕ × ℕ) → All (λ other. offset < other.1) symbols → symbol.1 ≤ offset
    → IsBefore (symbols ++ symbol ∷ []) offset symbol
found-first symbols offset symbol none at_most =
    record {
      front = symbols;
      back = [];
      parts = refl;
      at_most = at_most;
      lower = All-weaker (λ other. offset < other.1) (λ other. other.1 ≤ offset → other.1 < symbol.1) (λ other past within. absurd (omega (arith, past, within))) symbols none;
      highest = All-nil (λ other. other.1 ≤ offset → other.1 ≤ symbol.1);
    }

-- it is higher than the one that was found
found-higher : (symbols : List (List ℕ × ℕ)) (offset : ℕ) (found symbol : List ℕ × ℕ) → IsBefore symbols offset found → found.1 < symbol.1 → symbol.1 ≤ offset
    → IsBefore (symbols ++ symbol ∷ []) offset symbol
found-higher symbols offset found symbol before higher at_most =
    record {
      front = symbols;
      back = [];
      parts = refl;
      at_most = at_most;
      lower = All-same Lower symbols (before.front ++ found ∷ before.back) before.parts
          (All-append Lower before.front (found ∷ before.back)
          (All-weaker (λ other. other.1 ≤ offset → other.1 < found.1) Lower (λ other lower within. let low = lower within in omega (arith, low, higher)) before.front before.lower)
          (All-cons Lower found before.back (λ within. higher)
          (All-weaker (λ other. other.1 ≤ offset → other.1 ≤ found.1) Lower (λ other highest within. let high = highest within in omega (arith, high, higher)) before.back before.highest)));
      highest = All-nil (λ other. other.1 ≤ offset → other.1 ≤ symbol.1);
    }
  where
    Lower : List ℕ × ℕ → Type 0
    Lower other = other.1 ≤ offset → other.1 < symbol.1

-- ---- the next symbol

pub found-next : (symbols : List (List ℕ × ℕ)) (offset : ℕ) (symbol : List ℕ × ℕ) (found : Option (List ℕ × ℕ)) → IsFound symbols offset found → symbol.1 ≤ offset → IsHigher symbol.1 found
    → IsFound (symbols ++ symbol ∷ []) offset (Some symbol)
found-next symbols offset symbol None none at_most higher = found-first symbols offset symbol none at_most
found-next symbols offset symbol (Some found) before at_most higher = found-higher symbols offset found symbol before higher at_most

pub found-past : (symbols : List (List ℕ × ℕ)) (offset : ℕ) (symbol : List ℕ × ℕ) (found : Option (List ℕ × ℕ)) → IsFound symbols offset found → offset < symbol.1
    → IsFound (symbols ++ symbol ∷ []) offset found
found-past symbols offset symbol None none past = none-past symbols offset symbol none past
found-past symbols offset symbol (Some found) before past = found-kept symbols offset found symbol before (λ within. absurd (omega (arith, past, within)))

pub found-still : (symbols : List (List ℕ × ℕ)) (offset : ℕ) (symbol : List ℕ × ℕ) (found : Option (List ℕ × ℕ)) → IsFound symbols offset found → IsNoHigher symbol.1 found
    → IsFound (symbols ++ symbol ∷ []) offset found
found-still symbols offset symbol None none lower = absurd lower
found-still symbols offset symbol (Some found) before lower = found-kept symbols offset found symbol before (λ within. lower)
