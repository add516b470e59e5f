-- Where the contents of hunks stand in a file.
use Rattle.std.specs.Prelude.{◌≡◌, ℕ, ◌+◌, ◌*◌, List, [], ◌∷◌, ◌++◌, length, if◌then◌else◌, Vec}
use Rattle.hunk_base.specs.Longwords.{longwords}
use Rattle.hunk_words.specs.declared.due.Due.{Due}
use Rattle.hunk_objects.specs.ProgramUnit.{ObjectUnit}
use Rattle.hunk_loadfile.specs.LoadHunk.{FileHunk}
use Rattle.hunk_files.specs.FileValue.{IsOfItsKind, kind_of_bytes}
use Rattle.hunk_files.specs.HunkFile.{value_of}
use Rattle.hunk_files.specs.Watched.{is_content_size, latest_first}
use Rattle.hunk_files.specs.declared.file_decoder.File.{File}
use Rattle.hunk_files.specs.declared.watcher.Watched.{Watched}
use Rattle.hunk_json.specs.declared.content_offsets.ContentOffsets.{ContentOffsets}
use Rattle.hunk_json.specs.declared.form.JsonForm.{JsonForm}
use Rattle.hunk_json.specs.declared.form.JsonForm.TheVariants.{Plain, WithContent, InPage}

-- The offset, in bytes from the start of the file, just after each size of content among these longwords,
-- in file order. They stand the latest first, each with what was due there.
abbrev pub offsets_of : List (Due × ℕ) → List ℕ
offsets_of [] = []
offsets_of (d ∷ before) = if is_content_size d.0 then offsets_of before ++ (4 * length before + 4) ∷ [] else offsets_of before

-- the offsets at which the contents of the hunks of a file begin
abbrev pub content_offsets : (bytes : List ℕ) → List ℕ
content_offsets bytes = offsets_of (latest_first (kind_of_bytes bytes) (longwords bytes))

-- those that a document in this form tells
abbrev pub offsets_told : JsonForm → (bytes : List ℕ) → List ℕ
offsets_told Plain bytes = []
offsets_told WithContent bytes = content_offsets bytes
offsets_told InPage bytes = content_offsets bytes

-- It was shown these longwords, the latest first.
pub record IsOffsetsOf {A : Type 0} (offsets : ContentOffsets A) (before : List (Due × ℕ)) : Type 0 where
  pub end : offsets.end ≡ 4 * length before
  pub found : offsets.found.items ≡ offsets_of before

-- The bytes are a file with this value, and these are the offsets that are told of it.
pub record IsPlaced {A : Type 0} (form : JsonForm) (file : Watched (File (Vec ObjectUnit A) (List FileHunk)) (ContentOffsets A)) (bytes : List ℕ) : Type 0 where
  pub value : IsOfItsKind (value_of file.value) bytes
  pub offsets : file.watcher.found.items ≡ offsets_told form bytes
