-- What C is told of where two load files first differ, in numbers.
use Rattle.std.specs.Prelude.{ℕ, ◌^◌, ◌-◌, Bool, true, false, List, Option, None, Some}
use Rattle.hunk_loadfile.specs.Difference.{first_difference}
use Rattle.hunk_loadfile.specs.InfoDifference.{first_info_difference}
use Rattle.hunk_loadfile.specs.LoadHunk.{FileHunk}
use Rattle.hunk_loadfile.specs.declared.difference.Difference.{Difference}
use Rattle.hunk_loadfile.specs.declared.difference.Difference.TheVariants as difference_is
use Rattle.hunk_loadfile.specs.declared.info_difference.InfoDifference.{InfoDifference}
use Rattle.hunk_loadfile.specs.declared.info_difference.InfoDifference.TheVariants as info
use Rattle.amihunk_c.specs.Codes.{memory_code}
use Rattle.amihunk_c.specs.Told.{kind_code}
use Rattle.amihunk_c.specs.declared.compared.DifferenceKind.{DifferenceKind}
use Rattle.amihunk_c.specs.declared.compared.DifferenceKind.TheVariants as kind
use Rattle.amihunk_c.specs.declared.compared.DifferenceTold.{DifferenceTold}

-- ---- numbers

-- what differs, as C knows it
abbrev pub difference_code : DifferenceKind → ℕ
difference_code kind.Nothing = 0
difference_code kind.HunkCount = 1
difference_code kind.Kind = 2
difference_code kind.Memory = 3
difference_code kind.Size = 4
difference_code kind.Byte = 5
difference_code kind.Site = 6
difference_code kind.Symbol = 7
difference_code kind.Debug = 8

-- the hunk whose base is added at an offset; the highest number if there is no site
abbrev pub target_code : Option ℕ → ℕ
target_code None = 2 ^ 64 - 1
target_code (Some hunk) = hunk

-- ---- what is told

-- what differs in a hunk, or at a place in it, and nothing more
abbrev pub differs_at : DifferenceKind → (hunk offset : ℕ) → DifferenceTold
differs_at kind hunk offset = record { hunk = hunk; offset = offset; first = 0; second = 0; kind = difference_code kind }

-- the same with what the two files have there
abbrev pub differs_by : DifferenceKind → (hunk offset first second : ℕ) → DifferenceTold
differs_by kind hunk offset first second = record (differs_at kind hunk offset) { first = first; second = second }

abbrev pub nothing_told : DifferenceTold
nothing_told = differs_at kind.Nothing 0 0

abbrev pub difference_told : Difference → DifferenceTold
difference_told (difference_is.HunkCount first second) = differs_by kind.HunkCount 0 0 first second
difference_told (difference_is.Kind hunk first second) = differs_by kind.Kind hunk 0 (kind_code first) (kind_code second)
difference_told (difference_is.Memory hunk first second) = differs_by kind.Memory hunk 0 (memory_code first) (memory_code second)
difference_told (difference_is.Size hunk first second) = differs_by kind.Size hunk 0 first second
difference_told (difference_is.Byte hunk offset first second) = differs_by kind.Byte hunk offset first second
difference_told (difference_is.Site hunk offset first second) = differs_by kind.Site hunk offset (target_code first) (target_code second)

abbrev pub info_told : Option InfoDifference → DifferenceTold
info_told None = nothing_told
info_told (Some (info.Symbol hunk index)) = differs_at kind.Symbol hunk index
info_told (Some (info.Debug hunk index)) = differs_at kind.Debug hunk index

-- ---- of two load files

-- the first difference in what only debuggers read, if it counts
abbrev pub info_between : (first second : List FileHunk) → (with_symbols : Bool) → DifferenceTold
info_between first second true = info_told (first_info_difference first second)
info_between first second false = nothing_told

-- a difference in what they mean, else one in what only debuggers read
abbrev pub told_before : Option Difference → DifferenceTold → DifferenceTold
told_before (Some difference) next = difference_told difference
told_before None next = next

abbrev pub difference_between : (first second : List FileHunk) → (with_symbols : Bool) → DifferenceTold
difference_between first second with_symbols = told_before (first_difference first second) (info_between first second with_symbols)
