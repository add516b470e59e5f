-- Laws about documents.
use Rattle.std.specs.Prelude.{◌≢◌, ℕ, List}
use Rattle.std.specs.List.{All}
use Rattle.hunk_files.specs.FileValue.{FileValue}
use Rattle.hunk_json.specs.Document.{document}
use Rattle.hunk_json.specs.Run.{file_json}
use Rattle.hunk_json.specs.declared.form.JsonForm.TheVariants.{InPage}

-- No byte of a document in a page is a less-than sign.
abbrev pub HaveNoTag : Type 0
HaveNoTag = (offsets : List ℕ) (value : FileValue) → All (λ byte. byte ≢ 0x3C) (document InPage (file_json InPage offsets value))
