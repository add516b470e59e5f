-- The text of a file as one JSON document.
use Rattle.std.specs.Prelude.{ℕ, List, [], ◌++◌, codes}
use Rattle.serde_json.specs.Data.{Data}
use Rattle.hunk_files.specs.FileValue.{FileValue}
use Rattle.hunk_files.specs.FileValue.FileValue.{object_file, load_file}
use Rattle.hunk_json.specs.ContentOffsets.{offsets_told}
use Rattle.hunk_json.specs.Document.{document}
use Rattle.hunk_json.specs.FileJson.{load_json, object_json}
use Rattle.hunk_json.specs.declared.form.JsonForm.{JsonForm}
use Rattle.hunk_json.specs.declared.form.JsonForm.TheVariants.{Plain}

-- the JSON value of its kind, with the offsets of the contents of its hunks
abbrev pub file_json : JsonForm → (offsets : List ℕ) → FileValue → Data
file_json form offsets (object_file units) = object_json form offsets units
file_json form offsets (load_file hunks) = load_json form offsets hunks

-- its text in this form, as one line, with these offsets
abbrev pub line_of : JsonForm → (offsets : List ℕ) → FileValue → List ℕ
line_of form offsets value = document form (file_json form offsets value) ++ codes "\n"

-- its text in this form
abbrev pub json_text_in : JsonForm → (bytes : List ℕ) → FileValue → List ℕ
json_text_in form bytes value = line_of form (offsets_told form bytes) value

-- its plain text, which tells of the bytes no more than their value
abbrev pub json_text : FileValue → List ℕ
json_text = line_of Plain []
