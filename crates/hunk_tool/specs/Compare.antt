-- How two load files compare, and what it means that this was told, or why it was not.
use Rattle.std.specs.Prelude.{◌≡◌, ℕ, zero, suc, List, [], Bool, ◌&&◌, if◌then◌else◌, is_none, IsTrue, Option, Some, None}
use Rattle.std.specs.Io.KnownBytes.{Appends, Keeps}
use Rattle.hunk_base.specs.Streams.{HasRead, TookFront}
use Rattle.hunk_base.specs.declared.fault.Fault.{Fault}
use Rattle.hunk_loadfile.specs.Difference.{first_difference}
use Rattle.hunk_loadfile.specs.InfoDifference.{first_info_difference}
use Rattle.hunk_loadfile.specs.LoadFile.{IsLoadOf}
use Rattle.hunk_loadfile.specs.LoadHunk.{FileHunk}
use Rattle.hunk_loadfile.specs.declared.difference.Difference.{Difference}
use Rattle.hunk_loadfile.specs.declared.info_difference.InfoDifference.{InfoDifference}
use Rattle.hunk_loader.specs.ImageReader.{IsRefused}
use Rattle.hunk_text.specs.DifferenceText.{difference_line, info_difference_line}
use Rattle.hunk_tool.specs.Inputs.{Input}
use Rattle.hunk_tool.specs.Link.{Taken}
use Rattle.hunk_tool.specs.declared.tool_fault.ToolFault.{ToolFault}
use Rattle.hunk_tool.specs.declared.tool_fault.ToolFault.TheVariants.{Input as InputFault, InputDevice, Link, Place, Output, OutOfMemory}

-- ---- the comparison

-- the first difference in what only debuggers read, if it is asked for
abbrev pub info_difference : Bool → List FileHunk → List FileHunk → Option InfoDifference
info_difference with_symbols firsts seconds = if with_symbols then first_info_difference firsts seconds else None

-- the line of the first of the two differences, if there is one
abbrev pub comparison_text : List FileHunk → List FileHunk → Option Difference → Option InfoDifference → List ℕ
comparison_text firsts seconds (Some difference) info = difference_line difference
comparison_text firsts seconds None (Some difference) = info_difference_line firsts seconds difference
comparison_text firsts seconds None None = []

-- the text that tells how the files of these hunks compare
abbrev pub comparison : Bool → List FileHunk → List FileHunk → List ℕ
comparison with_symbols firsts seconds =
    comparison_text firsts seconds (first_difference firsts seconds) (info_difference with_symbols firsts seconds)

-- whether there is no difference
abbrev pub is_same : Bool → List FileHunk → List FileHunk → Bool
is_same with_symbols firsts seconds =
    is_none (first_difference firsts seconds) && is_none (info_difference with_symbols firsts seconds)

-- ---- what was read and written

-- what is known of a reader before and after a call
abbrev pub input_of : {R : Type 0} (left : R → Option (List ℕ)) (failed ended : R → Bool) → (old new : R) → Input
input_of left failed ended old new = record { left = left old; left_then = left new; failed = failed new; ended = ended new }

-- and of a writer
abbrev pub taken_of : {W : Type 0} (taken : W → Option (List ℕ)) (failed : W → Bool) → (old new : W) → Taken
taken_of taken failed old new = record { old = taken old; new = taken new; failed = failed new }

-- This holds of what was read of both, to the end of each.
pub record BothRead (first second : Input) (Holds : List ℕ → List ℕ → Type 0) : Type 0 where
  pub read : HasRead first.left first.left_then (λ one. HasRead second.left second.left_then (λ other. Holds one other))
  pub first_ended : IsTrue first.ended
  pub second_ended : IsTrue second.ended

-- The bytes are the load files of these hunks, how they compare was written, and this is whether they are the
-- same.
pub record IsCompared (with_symbols same : Bool) (old new : Option (List ℕ)) (one other : List ℕ) : Type 0 where
  pub firsts : List FileHunk
  pub seconds : List FileHunk
  pub is_first : IsLoadOf firsts one
  pub is_second : IsLoadOf seconds other
  pub written : Appends old new (comparison with_symbols firsts seconds)
  pub answer : same ≡ is_same with_symbols firsts seconds

-- The bytes are the load files of these hunks, and the writer took exactly the first `written` bytes of how
-- they compare.
pub record IsComparisonCutShort (with_symbols : Bool) (old new : Option (List ℕ)) (written : ℕ) (one other : List ℕ) : Type 0 where
  pub firsts : List FileHunk
  pub seconds : List FileHunk
  pub is_first : IsLoadOf firsts one
  pub is_second : IsLoadOf seconds other
  pub front : TookFront old new (comparison with_symbols firsts seconds) written

-- ---- faults

-- The file was read to its end, and it is a load file.
pub record WasLoad (input : Input) : Type 0 where
  pub hunks : List FileHunk
  pub read : HasRead input.left input.left_then (IsLoadOf hunks)
  pub ended : IsTrue input.ended

-- The file with this number, of two, was not read as a load file, for this: the first, and nothing of the second
-- was read; or the second, once the first was read.
abbrev pub IsUnreadOf : ℕ → (first second : Input) (Why : Input → Type 0) → Type 0
IsUnreadOf zero first second Why = Why first × (second.left_then ≡ second.left)
IsUnreadOf (suc zero) first second Why = WasLoad first × Why second
IsUnreadOf (suc (suc file)) first second Why = ⊥

-- what was read of it is rejected
abbrev pub IsRefusedInput : Fault → Input → Type 0
IsRefusedInput fault input = HasRead input.left input.left_then (IsRefused fault input.ended)

-- Why two files were not compared, or that was not told in full. Nothing was written before both readers ended.
abbrev pub IsCompareFault : {A : Type 0} → Bool → (first second : Input) → Taken → ToolFault A → Type 0
IsCompareFault with_symbols first second taken (InputFault file fault) =
    IsUnreadOf file first second (IsRefusedInput fault) × Keeps taken.old taken.new
IsCompareFault with_symbols first second taken (InputDevice file) =
    IsUnreadOf file first second (λ input. IsTrue input.failed) × Keeps taken.old taken.new
IsCompareFault with_symbols first second taken (Link refusal) = ⊥
IsCompareFault with_symbols first second taken (Place fault) = ⊥
IsCompareFault with_symbols first second taken (Output written) =
    BothRead first second (IsComparisonCutShort with_symbols taken.old taken.new written) × IsTrue taken.failed
IsCompareFault with_symbols first second taken (OutOfMemory written) = (written ≡ 0) × Keeps taken.old taken.new
