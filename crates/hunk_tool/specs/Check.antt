-- The text that `check` writes of a file.
use Rattle.std.specs.Prelude.{List, ℕ, length, sum_by}
use Rattle.hunk_objects.specs.ProgramUnit.{hunk_count}
use Rattle.hunk_text.specs.Listing.{load_line, object_line}
use Rattle.hunk_files.specs.Counters.{header_hunks, hunks_of, units_of}
use Rattle.hunk_files.specs.FileValue.{FileValue}
use Rattle.hunk_files.specs.FileValue.FileValue.{object_file, load_file}
use Rattle.hunk_files.specs.declared.counters.LoadCounter.{LoadCounter}
use Rattle.hunk_files.specs.declared.counters.ObjectCounter.{ObjectCounter}
use Rattle.hunk_files.specs.declared.file_decoder.File.{File}
use Rattle.hunk_files.specs.declared.file_decoder.File.TheVariants.{Object, Load}

-- one line: what kind of file it is, and its numbers of units and of hunks
abbrev pub check_text : FileValue → List ℕ
check_text (object_file units) = object_line (length units) (sum_by hunk_count units)
check_text (load_file hunks) = load_line (length hunks)

-- the line of a file that was counted
abbrev pub line_of : {A : Type 0} → File (ObjectCounter A) (LoadCounter A) → List ℕ
line_of (Object counter) = object_line (units_of counter) (hunks_of counter)
line_of (Load counter) = load_line (header_hunks counter)
