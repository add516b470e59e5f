-- Two files of which one cannot be opened.
use Rattle.std.proofs.Common.{ℕ, Bool, Bor, List, [], ◌∷◌, Option, subst, sym}
use Rattle.hunk_tool.specs.FileSystem.{IsContent, MayBeMissing}
use Rattle.hunk_store.specs.Opening.{IsOpening}
use Rattle.hunk_store.specs.Inputs.{IsUnopened}
use Rattle.hunk_store.specs.Output.{IsNothing, Printed}
use Rattle.hunk_store.specs.Store.{Contents}
use Rattle.hunk_store.specs.declared.failure.Failure.{Failure}
use Rattle.hunk_store.specs.declared.failure.Failure.TheVariants.{BadName, BadNumber, MapOverFile, Opening, Printing, Reading, SameFile, TooLong, TooManyAddresses, Tool, Writing}
use Rattle.hunk_store.proofs.InputsLemmas.{unopened_first, unopened_second}
use Rattle.hunk_commands.specs.Compare.{IsCompareFailure}

module _ (with_symbols : Bool) (contents : Contents) (first second : List ℕ) (printed : Printed) (nothing : IsNothing printed) where
  -- this file, which is one of the two, cannot be opened
  fails_to_open : (file : Bor (List ℕ)) (failure : Failure) → IsOpening contents file failure → (MayBeMissing (contents file.now) → IsUnopened contents (first ∷ second ∷ []) file.now)
      → IsCompareFailure with_symbols contents first second printed failure
  fails_to_open file (BadNumber addresses index) is unopened = absurd is
  fails_to_open file (TooManyAddresses name) is unopened = absurd is
  fails_to_open file (TooLong name) is unopened = absurd is
  fails_to_open file (BadName list index) is unopened = absurd is
  fails_to_open file (Opening name reason) is unopened = (subst (λ n. IsUnopened contents (first ∷ second ∷ []) n.now) (sym is.0) (unopened is.1), nothing)
  fails_to_open file (Reading name) is unopened = absurd is
  fails_to_open file (Writing name) is unopened = absurd is
  fails_to_open file (SameFile name) is unopened = absurd is
  fails_to_open file (MapOverFile name) is unopened = absurd is
  fails_to_open file Printing is unopened = absurd is
  fails_to_open file (Tool fault) is unopened = absurd is

-- the first file cannot be opened
pub IsCompareFailure-first : (with_symbols : Bool) (contents : Contents) (first second : Bor (List ℕ)) (printed : Printed) → IsNothing printed → (failure : Failure) → IsOpening contents first failure
    → IsCompareFailure with_symbols contents first.now second.now printed failure
IsCompareFailure-first with_symbols contents first second printed nothing failure is =
    fails_to_open with_symbols contents first.now second.now printed nothing first failure is (unopened_first contents first.now second.now)

-- the first file was opened, and the second cannot be
pub IsCompareFailure-second : (with_symbols : Bool) (contents : Contents) (first second : Bor (List ℕ)) (printed : Printed) → IsNothing printed → (left : Option (List ℕ)) → IsContent (contents first.now) left
    → (failure : Failure) → IsOpening contents second failure → IsCompareFailure with_symbols contents first.now second.now printed failure
IsCompareFailure-second with_symbols contents first second printed nothing left there failure is =
    fails_to_open with_symbols contents first.now second.now printed nothing second failure is (unopened_second contents first.now second.now left there)
