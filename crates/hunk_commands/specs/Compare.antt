-- What is known of two load files and the output after `compare`, or why it failed.
use Rattle.std.specs.Prelude.{ℕ, List, [], ◌∷◌, Bool, IsTrue}
use Rattle.hunk_tool.specs.Compare.{BothRead, IsCompareFault, IsCompared}
use Rattle.hunk_tool.specs.FileSystem.{OfFile}
use Rattle.hunk_tool.specs.Inputs.{Input}
use Rattle.hunk_store.specs.Inputs.{IsUnopened}
use Rattle.hunk_store.specs.Output.{IsFlushed, IsNothing, Printed, taken_by}
use Rattle.hunk_store.specs.Store.{Contents}
use Rattle.hunk_store.specs.declared.failure.Failure.{Failure}
use Rattle.hunk_store.specs.declared.failure.Failure.TheVariants.{Opening, Printing, Tool}

-- this holds of readers of both files
abbrev pub OfBoth : Contents → (first second : List ℕ) → (Holds : Input → Input → Type 0) → Type 0
OfBoth contents first second Holds =
    OfFile (contents first) (λ one. OfFile (contents second) (λ other. Holds one other))

-- both are load files, how they compare is what the output has taken, and this is whether they are the same
abbrev pub AreWrittenOf : (with_symbols same : Bool) → Contents → (first second : List ℕ) → Printed → Type 0
AreWrittenOf with_symbols same contents first second printed = OfBoth contents first second
    (λ one other. BothRead one other (IsCompared with_symbols same printed.old printed.new))

-- it was printed
abbrev pub AreCompared : (with_symbols same : Bool) → Contents → (first second : List ℕ) → Printed → Type 0
AreCompared with_symbols same contents first second printed =
    AreWrittenOf with_symbols same contents first second printed × IsFlushed printed

-- why `compare` failed: a file cannot be opened, the output did not pass on what it had taken, or the run over
-- the files failed
abbrev pub IsCompareFailure : Bool → Contents → (first second : List ℕ) → Printed → Failure → Type 0
IsCompareFailure with_symbols contents first second printed (Opening name reason) =
    IsUnopened contents (first ∷ second ∷ []) name.now × IsNothing printed
IsCompareFailure with_symbols contents first second printed Printing =
    ((same : Bool) × AreWrittenOf with_symbols same contents first second printed) × IsTrue printed.failed
IsCompareFailure with_symbols contents first second printed (Tool fault) =
    OfBoth contents first second (λ one other. IsCompareFault with_symbols one other (taken_by printed) fault)
IsCompareFailure with_symbols contents first second printed _ = ⊥
