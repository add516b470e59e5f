-- How many files are what, and the lines that tell so.
use Rattle.std.specs.Prelude.{ℕ, ◌++◌, codes, Bool, List, if◌then◌else◌, length, nat_lt}
use Rattle.std.specs.Fmt.{decimal}
use Rattle.std.specs.List.{filter}
use Rattle.hunk_base.specs.Text.{counted_to, line}
use Rattle.hunk_survey.specs.Finding.{is_load, is_object, is_refused, is_stranger, is_unreadable}
use Rattle.hunk_survey.specs.declared.finding.Finding.{Finding}
use Rattle.hunk_survey.specs.declared.tally.Tally.{Tally}

-- ---- the numbers

-- how many files this holds of
abbrev pub number_of : (Finding → Bool) → List Finding → ℕ
number_of test findings = length (filter test findings)

-- the number of files, and how many of them are what; a number stays at the largest that there is
abbrev pub tally_of : List Finding → Tally
tally_of findings = record {
  files = counted_to (length findings);
  objects = counted_to (number_of is_object findings);
  loads = counted_to (number_of is_load findings);
  refused = counted_to (number_of is_refused findings);
  strangers = counted_to (number_of is_stranger findings);
  unreadable = counted_to (number_of is_unreadable findings);
}

-- ---- the last lines

abbrev pub files_line : Tally → List ℕ
files_line tally = line (
    decimal tally.files ++ codes " files: "
    ++ decimal tally.objects ++ codes " object files, "
    ++ decimal tally.loads ++ codes " load files, "
    ++ decimal tally.refused ++ codes " refused, "
    ++ decimal tally.unreadable ++ codes " unreadable")

abbrev pub refused_line : Tally → List ℕ
refused_line tally = line (decimal tally.refused ++ codes " refused, of which " ++ decimal tally.strangers ++ codes " are no hunk files")

abbrev pub totals_text : Tally → List ℕ
totals_text tally = files_line tally ++ refused_line tally

-- ---- the exit status

-- 0 if all files are hunk files, 3 if one could not be read, and otherwise 1
abbrev pub tally_status : Tally → ℕ
tally_status tally = if nat_lt 0 tally.unreadable then 3 else if nat_lt 0 tally.refused then 1 else 0
