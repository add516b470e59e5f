-- The text of a file that was read with what is odd about it.
use Rattle.std.proofs.Common.{◌^◌, ◌<◌, ◌++◌, ℕ, List, Option, Vec, length, sum_by, ap, arith}
use Rattle.std.proofs.lemmas.List.{length-append}
use Rattle.hunk_base.specs.Longwords.{longwords}
use Rattle.hunk_base.specs.Streams.{HasRead}
use Rattle.hunk_base.proofs.DigitsLemmas.{length-decimal}
use Rattle.hunk_base.proofs.StreamsLemmas.{HasRead-weaker}
use Rattle.hunk_words.specs.declared.event.FileKind.{FileKind}
use Rattle.hunk_words.specs.declared.event.FileKind.TheVariants as kind_is
use Rattle.hunk_objects.specs.ProgramUnit.{ObjectUnit, hunk_count}
use Rattle.hunk_loadfile.specs.LoadHunk.{FileHunk}
use Rattle.hunk_loadfile.proofs.RulesReadLemmas.{IsLoadFile-load}
use Rattle.hunk_text.specs.Listing.{load_line, object_line}
use Rattle.hunk_text.proofs.ListingSizeUnitsLemmas.{hunk_count-fits, unit_count-fits}
use Rattle.hunk_files.specs.FileValue.{FileValue, IsOfKind, kind_of_bytes}
use Rattle.hunk_files.specs.FileValue.FileValue.{load_file, object_file}
use Rattle.hunk_files.specs.declared.file_decoder.File.{File}
use Rattle.hunk_tool.specs.Check.{check_text}
use Rattle.hunk_tool.proofs.FileTextLemmas.{HasText}
use Rattle.hunk_lint.specs.LintText.{lint_lines}
use Rattle.hunk_lint.specs.Linted.{IsLinted, oddities_of, value_of}
use Rattle.hunk_lint.specs.Run.{lint_text, lint_text_of, unit_hunks}
use Rattle.hunk_lint.specs.declared.linted.Linted.{Linted}
use Rattle.hunk_lint.proofs.LintTextLemmas.{lint_lines-fit}

-- What was read is a file with this text.
pub HasText-linted : {A : Type 0} (file : File (Linted (Vec ObjectUnit A) A) (Linted (List FileHunk) A)) (left left_then : Option (List ℕ))
    → HasRead left left_then (IsLinted file) → HasRead left left_then (HasText lint_text (lint_text_of file))
HasText-linted file left left_then read =
    HasRead-weaker left left_then (IsLinted file) (HasText lint_text (lint_text_of file))
    (λ bytes is. record { value = value_of file; is_file = is.0; is_text = ap (λ lints. check_text (value_of file) ++ lint_lines lints (value_of file)) is.1 }) read

-- ---- the text is short

object_line-fits : (units hunks : ℕ) → units < 2 ^ 64 → hunks < 2 ^ 64 → length (object_line units hunks) < 2 ^ 63
object_line-fits units hunks few_units few_hunks = simp length-append (omega (arith, length-decimal units few_units, length-decimal hunks few_hunks))

load_line-fits : (hunks : ℕ) → hunks < 2 ^ 64 → length (load_line hunks) < 2 ^ 63
load_line-fits hunks few = simp length-append (omega (arith, length-decimal hunks few))

check_text-fits : (kind : FileKind) (value : FileValue) (bytes : List ℕ) → IsOfKind kind value bytes → length (check_text value) < 2 ^ 63
check_text-fits kind_is.Object (object_file units) bytes is = object_line-fits (length units) (sum_by hunk_count units) (unit_count-fits units bytes is) (hunk_count-fits units bytes is)
check_text-fits kind_is.Load (load_file hunks) bytes is = load_line-fits (length hunks) (omega (arith, (IsLoadFile-load hunks (longwords bytes) is.is_load).few))
check_text-fits kind_is.Object (load_file hunks) bytes is = absurd is
check_text-fits kind_is.Load (object_file units) bytes is = absurd is

-- it is shorter than 2^64 bytes
pub lint_text-fits : {A : Type 0} (file : File (Linted (Vec ObjectUnit A) A) (Linted (List FileHunk) A)) (left left_then : Option (List ℕ))
    → HasRead left left_then (IsLinted file) → length (lint_text_of file) < 2 ^ 64
lint_text-fits file left left_then read =
    omega (
      arith,
      length-append (check_text (value_of file)) (lint_lines (oddities_of file) (value_of file)),
      check_text-fits (kind_of_bytes read.bytes) (value_of file) read.bytes read.holds.0,
      lint_lines-fit file read.bytes read.holds,
    )

unit_hunks-fit : (kind : FileKind) (value : FileValue) (bytes : List ℕ) → IsOfKind kind value bytes → unit_hunks value < 2 ^ 64
unit_hunks-fit kind_is.Object (object_file units) bytes is = hunk_count-fits units bytes is
unit_hunks-fit kind_is.Load (load_file hunks) bytes is = omega arith
unit_hunks-fit kind_is.Object (load_file hunks) bytes is = absurd is
unit_hunks-fit kind_is.Load (object_file units) bytes is = absurd is

-- the hunks of its units can be counted
pub few-linted : {A : Type 0} (file : File (Linted (Vec ObjectUnit A) A) (Linted (List FileHunk) A)) (left left_then : Option (List ℕ))
    → HasRead left left_then (IsLinted file) → unit_hunks (value_of file) < 2 ^ 64
few-linted file left left_then read = unit_hunks-fit (kind_of_bytes read.bytes) (value_of file) read.bytes read.holds.0
