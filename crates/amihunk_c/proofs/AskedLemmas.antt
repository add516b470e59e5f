-- The symbol that was found is told.
use Rattle.std.proofs.Common.{◌≡◌, ℕ, List, Result, Ok, subst}
use Rattle.amihunk_c.specs.Codes.{status_code}
use Rattle.amihunk_c.specs.Facts.{HunkFacts}
use Rattle.amihunk_c.specs.SymbolBefore.{IsBefore, TellsBefore}
use Rattle.amihunk_c.specs.SymbolBefore.TellsFound.{found}
use Rattle.amihunk_c.specs.Told.{IsSymbolTold}
use Rattle.amihunk_c.specs.declared.codes.Status.{Status}
use Rattle.amihunk_c.specs.declared.codes.Status.TheVariants as status
use Rattle.amihunk_c.specs.declared.told.SymbolTold.{SymbolTold}

pub TellsBefore-found : (asked : Result HunkFacts Status) (facts : HunkFacts) (offset : ℕ) (symbol : List ℕ × ℕ) (old new : SymbolTold) (code : ℕ) → Ok facts ≡ asked
    → IsBefore facts.symbols offset symbol → IsSymbolTold symbol new → code ≡ status_code status.Ok → TellsBefore asked offset old new code
TellsBefore-found asked facts offset symbol old new code is before told ok = subst (λ (a : Result HunkFacts Status). TellsBefore a offset old new code) is (found symbol before told ok)
