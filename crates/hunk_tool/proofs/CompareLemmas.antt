-- What is told of two load files can be counted, and what a fault of comparing says.
use Rattle.std.proofs.Common.{◌≡◌, ◌^◌, ◌<◌, ◌&&◌, ◌∙◌, ℕ, inl, inr, List, [], length, slice_get, Option, Some, None, Bool, true, false, IsTrue, refl, sym, ap, arith}
use Rattle.std.specs.Option.{is_none}
use Rattle.std.specs.Io.KnownBytes.{Appends}
use Rattle.std.proofs.KnownBytes.{Keeps-refl}
use Rattle.hunk_base.specs.Streams.{HasRead, IsDevice, WriteStopped}
use Rattle.hunk_base.specs.declared.fault.Fault.{Fault}
use Rattle.hunk_base.specs.declared.fault.ReadFault.{ReadFault}
use Rattle.hunk_base.specs.declared.fault.ReadFault.TheVariants as read_fault
use Rattle.hunk_base.specs.declared.fault.Refusal.TheVariants as refusal_is
use Rattle.hunk_base.specs.declared.fault.WriteFault.{WriteFault}
use Rattle.hunk_base.specs.declared.fault.WriteFault.TheVariants as write_fault
use Rattle.hunk_base.proofs.StreamsLemmas.{HasRead-weaker}
use Rattle.hunk_words.specs.Decoder.{RefusesRead}
use Rattle.hunk_words.specs.declared.event.FileKind.TheVariants.{Load}
use Rattle.hunk_base.specs.Longwords.{longwords}
use Rattle.hunk_base.specs.Text.{line}
use Rattle.hunk_loadfile.specs.Comparison.{Compares, IsComparedWith, differing_symbol, symbol_in}
use Rattle.hunk_loadfile.specs.Difference.{first_difference}
use Rattle.hunk_loadfile.specs.InfoDifference.{first_info_difference}
use Rattle.hunk_loadfile.specs.LoadFile.{IsLoadOf}
use Rattle.hunk_loadfile.specs.LoadHunk.{FileHunk}
use Rattle.hunk_loadfile.specs.Rules.{IsLoadFile}
use Rattle.hunk_loadfile.specs.declared.comparison.Comparison.{Comparison}
use Rattle.hunk_loadfile.specs.declared.difference.Difference.{Difference}
use Rattle.hunk_loadfile.specs.declared.info_difference.InfoDifference.{InfoDifference}
use Rattle.hunk_loadfile.specs.declared.info_difference.InfoDifference.TheVariants.{Symbol, Debug}
use Rattle.hunk_loadfile.proofs.RulesReadLemmas.{IsLoadFile-load}
use Rattle.hunk_loader.specs.ImageReader.{IsRefused}
use Rattle.hunk_text.specs.DifferenceText.{difference_line, info_difference_line, info_difference_told, symbol_of}
use Rattle.hunk_text.proofs.DifferenceSizeLemmas.{difference-fits}
use Rattle.hunk_text.proofs.InfoDifferenceSizeLemmas.{info_difference-fits}
use Rattle.hunk_tool.specs.Compare.{BothRead, IsCompared, IsCompareFault, IsComparisonCutShort, IsRefusedInput, WasLoad, comparison, comparison_text, info_difference, is_same}
use Rattle.hunk_tool.specs.Inputs.{Input}
use Rattle.hunk_tool.specs.ToolFault.{tool_fault_of_read, tool_fault_of_write}

-- ---- the text

info_difference-found : (with_symbols : Bool) (firsts seconds : List FileHunk) (difference : InfoDifference) → info_difference with_symbols firsts seconds ≡ Some difference
    → first_info_difference firsts seconds ≡ Some difference
info_difference-found true firsts seconds difference is = is
info_difference-found false firsts seconds difference is = absurd (cc)

pub comparison-fits : (with_symbols : Bool) (firsts seconds : List FileHunk) → IsLoadFile firsts → IsLoadFile seconds → length (comparison with_symbols firsts seconds) < 2 ^ 64
comparison-fits with_symbols firsts seconds one other = go (first_difference firsts seconds) (info_difference with_symbols firsts seconds) refl refl
  where
    go : (difference : Option Difference) (info : Option InfoDifference) → first_difference firsts seconds ≡ difference → info_difference with_symbols firsts seconds ≡ info
        → length (comparison_text firsts seconds difference info) < 2 ^ 64
    go (Some difference) info is info_is = difference-fits firsts seconds difference one other is
    go None (Some difference) is info_is = info_difference-fits firsts seconds difference one other (info_difference-found with_symbols firsts seconds difference info_is)
    go None None is info_is = omega arith

-- ---- what is found

and-false : (one : Bool) → (one && false) ≡ false
and-false true = refl
and-false false = refl

-- the symbol that the second file has there
symbol-there : (hunk : Option FileHunk) (number index : ℕ) → symbol_in hunk (Some (Symbol number index)) ≡ symbol_of hunk index
symbol-there None number index = refl
symbol-there (Some hunk) number index = refl

told-line : (firsts seconds : List FileHunk) (symbol : Option (List ℕ × ℕ)) (difference : InfoDifference) → symbol ≡ differing_symbol seconds (Some difference)
    → line (info_difference_told firsts symbol difference) ≡ info_difference_line firsts seconds difference
told-line firsts seconds symbol (Symbol hunk index) is =
    ap (λ there. line (info_difference_told firsts there (Symbol hunk index))) (is ∙ symbol-there (slice_get seconds hunk) hunk index)
told-line firsts seconds symbol (Debug hunk index) is = refl

module _ {A : Type 0} (found : Comparison A) (firsts seconds : List FileHunk) (compares : Compares found firsts seconds) where
  -- They mean something else.
  pub different-text : (with_symbols : Bool) (difference : Difference) → found.difference ≡ Some difference → difference_line difference ≡ comparison with_symbols firsts seconds
  different-text with_symbols difference is =
      ap (λ there. comparison_text firsts seconds there (info_difference with_symbols firsts seconds)) (sym is ∙ compares.difference)

  pub different-answer : (with_symbols : Bool) (difference : Difference) → found.difference ≡ Some difference → false ≡ is_same with_symbols firsts seconds
  different-answer with_symbols difference is = ap (λ there. is_none there && is_none (info_difference with_symbols firsts seconds)) (sym is ∙ compares.difference)

  -- They mean the same, and nothing else is asked for.
  pub alike-text : found.difference ≡ None → [] ≡ comparison false firsts seconds
  alike-text none = ap (λ there. comparison_text firsts seconds there None) (sym none ∙ compares.difference)

  pub alike-answer : found.difference ≡ None → true ≡ is_same false firsts seconds
  alike-answer none = ap (λ there. is_none there && true) (sym none ∙ compares.difference)

  -- They differ for a debugger.
  pub info-text : (difference : InfoDifference) → found.difference ≡ None → found.info_difference ≡ Some difference → line (info_difference_told firsts found.symbol difference) ≡ comparison true firsts seconds
  info-text difference none is =
      told-line firsts seconds found.symbol difference (compares.symbol ∙ ap (differing_symbol seconds) is)
      ∙ ap (λ there. comparison_text firsts seconds there (Some difference)) (sym none ∙ compares.difference)
      ∙ ap (λ info. comparison_text firsts seconds (first_difference firsts seconds) info) (sym is ∙ compares.info_difference)

  pub info-answer : (difference : InfoDifference) → found.info_difference ≡ Some difference → false ≡ is_same true firsts seconds
  info-answer difference is = sym (and-false (is_none (first_difference firsts seconds))) ∙ ap (λ info. is_none (first_difference firsts seconds) && is_none info) (sym is ∙ compares.info_difference)

  -- They differ in nothing.
  pub same-text : found.difference ≡ None → found.info_difference ≡ None → [] ≡ comparison true firsts seconds
  same-text none nothing =
      ap (λ there. comparison_text firsts seconds there None) (sym none ∙ compares.difference)
      ∙ ap (λ info. comparison_text firsts seconds (first_difference firsts seconds) info) (sym nothing ∙ compares.info_difference)

  pub same-answer : found.difference ≡ None → found.info_difference ≡ None → true ≡ is_same true firsts seconds
  same-answer none nothing =
      ap (λ there. is_none there && true) (sym none ∙ compares.difference) ∙ ap (λ info. is_none (first_difference firsts seconds) && is_none info) (sym nothing ∙ compares.info_difference)

-- ---- two files that were read

-- the hunks of a file that was compared
pub HasRead-compared : {A : Type 0} (old new : Option (List ℕ)) (firsts : List FileHunk) (found : Comparison A) (read : HasRead old new (IsComparedWith firsts found)) → HasRead old new (IsLoadOf read.holds.seconds)
HasRead-compared old new firsts found read = record { bytes = read.bytes; consumed = read.consumed; holds = read.holds.is_load }

-- It is a load file.
pub IsLoadFile-read : (old new : Option (List ℕ)) (hunks : List FileHunk) → HasRead old new (IsLoadOf hunks) → IsLoadFile hunks
IsLoadFile-read old new hunks read = IsLoadFile-load hunks (longwords read.bytes) read.holds.is_load

module _ (first second : Input) (firsts seconds : List FileHunk) (one : HasRead first.left first.left_then (IsLoadOf firsts)) (one_ended : IsTrue first.ended)
    (other : HasRead second.left second.left_then (IsLoadOf seconds)) (other_ended : IsTrue second.ended) where
  both_read : (Holds : List ℕ → List ℕ → Type 0) → ((bytes others : List ℕ) → IsLoadOf firsts bytes → IsLoadOf seconds others → Holds bytes others) → BothRead first second Holds
  both_read Holds holds = record {
    read =
        HasRead-weaker first.left first.left_then (IsLoadOf firsts) (λ bytes. HasRead second.left second.left_then (Holds bytes))
        (λ bytes is. HasRead-weaker second.left second.left_then (IsLoadOf seconds) (Holds bytes) (λ others are. holds bytes others is are) other) one;
    first_ended = one_ended;
    second_ended = other_ended;
  }

  pub BothRead-compared : (with_symbols same : Bool) (old new : Option (List ℕ)) → Appends old new (comparison with_symbols firsts seconds) → same ≡ is_same with_symbols firsts seconds
      → BothRead first second (IsCompared with_symbols same old new)
  BothRead-compared with_symbols same old new written answer =
      both_read (IsCompared with_symbols same old new)
      (λ bytes others is are. record { firsts = firsts; seconds = seconds; is_first = is; is_second = are; written = written; answer = answer })

  -- and writing how they compare stopped
  pub IsCompareFault-written : (A : Type 0) {W : Type 0} (taken : W → Option (List ℕ)) (failed : W → Bool) (old new : W) (with_symbols : Bool) (fault : WriteFault)
      → IsDevice fault → WriteStopped taken failed old new (comparison with_symbols firsts seconds) fault
      → IsCompareFault {A = A} with_symbols first second (record { old = taken old; new = taken new; failed = failed new }) (tool_fault_of_write fault)
  IsCompareFault-written A taken failed old new with_symbols (write_fault.Device written) device stopped = (
    both_read (IsComparisonCutShort with_symbols (taken old) (taken new) written)
        (λ bytes others is are. record { firsts = firsts; seconds = seconds; is_first = is; is_second = are; front = stopped.0 }),
    stopped.1,
  )
  IsCompareFault-written A taken failed old new with_symbols (write_fault.OutOfMemory written) device stopped = absurd device

-- ---- a file that was not read

refused_input : (input : Input) (fault : Fault) → RefusesRead Load input.left input.left_then input.ended input.failed (read_fault.Refused (refusal_is.Fault fault)) → IsRefusedInput fault input
refused_input input fault (inl offends) = HasRead-weaker input.left input.left_then _ (IsRefused fault input.ended) (λ bytes here. inl here) offends
refused_input input fault (inr (at_end, early)) = HasRead-weaker input.left input.left_then _ (IsRefused fault input.ended) (λ bytes here. inr (at_end, here)) early

module _ (A : Type 0) (with_symbols : Bool) (first second : Input) (taken : Option (List ℕ)) (failed : Bool) where
  -- the first one, and nothing of the second was read
  pub IsCompareFault-first : (fault : ReadFault) → second.left_then ≡ second.left → RefusesRead Load first.left first.left_then first.ended first.failed fault
      → IsCompareFault {A = A} with_symbols first second (record { old = taken; new = taken; failed = failed }) (tool_fault_of_read 0 fault)
  IsCompareFault-first (read_fault.Refused (refusal_is.Fault fault)) untouched refused = ((refused_input first fault refused, untouched), Keeps-refl taken)
  IsCompareFault-first (read_fault.Refused refusal_is.OutOfMemory) untouched refused = (refl, Keeps-refl taken)
  IsCompareFault-first read_fault.Device untouched refused = ((refused, untouched), Keeps-refl taken)

  -- the second one
  pub IsCompareFault-second : (fault : ReadFault) → WasLoad first → RefusesRead Load second.left second.left_then second.ended second.failed fault
      → IsCompareFault {A = A} with_symbols first second (record { old = taken; new = taken; failed = failed }) (tool_fault_of_read 1 fault)
  IsCompareFault-second (read_fault.Refused (refusal_is.Fault fault)) was refused = ((was, refused_input second fault refused), Keeps-refl taken)
  IsCompareFault-second (read_fault.Refused refusal_is.OutOfMemory) was refused = (refl, Keeps-refl taken)
  IsCompareFault-second read_fault.Device was refused = ((was, refused), Keeps-refl taken)
