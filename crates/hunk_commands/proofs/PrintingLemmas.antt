-- A text that was written is printed, once the output is flushed.
use Rattle.std.proofs.Common.{◌≡◌, ℕ, List, Option, OnOk, OnErr, IfErr, Ok, Err, Result, Bool, sym, subst}
use Rattle.std.specs.Io.KnownBytes.{Keeps}
use Rattle.std.proofs.KnownBytes.{Appends-kept}
use Rattle.hunk_base.specs.Streams.{HasRead}
use Rattle.hunk_base.proofs.StreamsLemmas.{HasRead-weaker}
use Rattle.hunk_loadfile.specs.LoadHunk.{FileHunk}
use Rattle.hunk_objects.specs.ProgramUnit.{ObjectUnit}
use Rattle.hunk_files.specs.FileValue.{FileValue}
use Rattle.hunk_tool.specs.Compare.{BothRead, IsCompared}
use Rattle.hunk_tool.specs.FileText.{IsWritten}
use Rattle.hunk_tool.specs.Image.{IsUnitsText}
use Rattle.hunk_tool.specs.Inputs.{HaveRead, Input}
use Rattle.hunk_tool.specs.Load.{IsWrittenAt}
use Rattle.hunk_tool.proofs.InputsLemmas.{HaveRead-weaker}
use Rattle.hunk_store.specs.declared.failure.Failure.{Failure}
use Rattle.hunk_store.specs.declared.failure.Failure.TheVariants.{Printing}

-- this holds of what was done, since the output was flushed
pub on_flushed : {T E : Type 0} (r : Result T E) (Flushed Done : Type 0) → (Flushed → Done) → OnOk r Flushed → OnOk r Done
on_flushed (Ok done) Flushed Done gives flushed = gives flushed
on_flushed (Err failure) Flushed Done gives flushed = tt

-- the output was not flushed, and this is why
pub not_flushed : {T : Type 0} (r : Result T Failure) (Failed : Type 0) (Why : Failure → Type 0) → (Failed → Why Printing) → OnErr r Failed → IfErr r (λ failure. failure ≡ Printing) → IfErr r Why
not_flushed (Ok done) Failed Why gives failed is = tt
not_flushed (Err failure) Failed Why gives failed is = subst Why (sym is) (gives failed)

-- what was written is kept by a flush

pub kept_at : (text : List FileHunk → List ℕ → List ℕ) (bases : List ℕ) (left left_then old between new : Option (List ℕ)) → Keeps between new
    → HasRead left left_then (IsWrittenAt text bases old between) → HasRead left left_then (IsWrittenAt text bases old new)
kept_at text bases left left_then old between new kept read =
    HasRead-weaker left left_then (IsWrittenAt text bases old between) (IsWrittenAt text bases old new)
    (λ bytes is. record { hunks = is.hunks; is_file = is.is_file; placed = is.placed; written = Appends-kept old between new _ is.written kept }) read

pub kept_text : (text : List ℕ → FileValue → List ℕ) (left left_then old between new : Option (List ℕ)) → Keeps between new
    → HasRead left left_then (IsWritten text old between) → HasRead left left_then (IsWritten text old new)
kept_text text left left_then old between new kept read =
    HasRead-weaker left left_then (IsWritten text old between) (IsWritten text old new)
    (λ bytes is. record { value = is.value; is_file = is.is_file; written = Appends-kept old between new _ is.written kept }) read

pub kept_of_units : (strip : Bool) (text : List ObjectUnit → List ℕ → List ℕ) (bases : List ℕ) (inputs : List Input) (old between new : Option (List ℕ)) → Keeps between new
    → HaveRead inputs (IsUnitsText strip text bases old between) → HaveRead inputs (IsUnitsText strip text bases old new)
kept_of_units strip text bases inputs old between new kept read =
    HaveRead-weaker inputs (IsUnitsText strip text bases old between) (IsUnitsText strip text bases old new)
    (λ files is. record { units = is.units; link = is.link; placed = is.placed; written = Appends-kept old between new _ is.written kept }) read

pub kept_comparison : (with_symbols same : Bool) (first second : Input) (old between new : Option (List ℕ)) → Keeps between new
    → BothRead first second (IsCompared with_symbols same old between) → BothRead first second (IsCompared with_symbols same old new)
kept_comparison with_symbols same first second old between new kept read = record {
  read = HasRead-weaker first.left first.left_then _ _
      (λ one. HasRead-weaker second.left second.left_then (IsCompared with_symbols same old between one) (IsCompared with_symbols same old new one)
      (λ other is. record { firsts = is.firsts; seconds = is.seconds; is_first = is.is_first; is_second = is.is_second; written = Appends-kept old between new _ is.written kept; answer = is.answer })) read.read;
  first_ended = read.first_ended;
  second_ended = read.second_ended;
}
