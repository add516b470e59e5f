-- The text that tells what is odd about a file.
use Rattle.std.specs.Prelude.{ℕ, List, ◌++◌, Vec, sum_by}
use Rattle.hunk_base.specs.Longwords.{longwords}
use Rattle.hunk_files.specs.FileValue.{FileValue, kind_of_bytes}
use Rattle.hunk_files.specs.FileValue.FileValue.{object_file, load_file}
use Rattle.hunk_files.specs.declared.file_decoder.File.{File}
use Rattle.hunk_loadfile.specs.LoadHunk.{FileHunk}
use Rattle.hunk_objects.specs.ProgramUnit.{ObjectUnit, hunk_count}
use Rattle.hunk_tool.specs.Check.{check_text}
use Rattle.hunk_lint.specs.Linted.{oddities_of, value_of}
use Rattle.hunk_lint.specs.LintText.{lint_lines}
use Rattle.hunk_lint.specs.Oddity.{longword_lints}
use Rattle.hunk_lint.specs.declared.linted.Linted.{Linted}

-- the line of what the file is, and then those of what is odd about it
abbrev pub lint_text : (bytes : List ℕ) → FileValue → List ℕ
lint_text bytes value = check_text value ++ lint_lines (longword_lints (kind_of_bytes bytes) (longwords bytes)) value

-- the same of a file that was read
abbrev pub lint_text_of : {A : Type 0} → File (Linted (Vec ObjectUnit A) A) (Linted (List FileHunk) A) → List ℕ
lint_text_of file = check_text (value_of file) ++ lint_lines (oddities_of file) (value_of file)

-- how many hunks the units of an object file have
abbrev pub unit_hunks : FileValue → ℕ
unit_hunks (object_file units) = sum_by hunk_count units
unit_hunks (load_file hunks) = 0
