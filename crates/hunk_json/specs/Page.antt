-- The page of a file: its document, between what begins and what ends every page.
use Rattle.std.specs.Prelude.{ℕ, List, ◌++◌}
use Rattle.hunk_files.specs.FileValue.{FileValue}
use Rattle.hunk_json.specs.ContentOffsets.{offsets_told}
use Rattle.hunk_json.specs.Document.{document}
use Rattle.hunk_json.specs.Run.{file_json}
use Rattle.hunk_json.specs.declared.form.JsonForm.TheVariants.{InPage}
use Rattle.hunk_json.specs.declared.page_sources.TheConstants.{HEAD, TAIL}

unfoldable pub page_head : List ℕ
page_head = HEAD.now

unfoldable pub page_tail : List ℕ
page_tail = TAIL.now

-- with these offsets of the contents of its hunks
abbrev pub page_of : (offsets : List ℕ) → FileValue → List ℕ
page_of offsets value = page_head ++ document InPage (file_json InPage offsets value) ++ page_tail

abbrev pub page_text : (bytes : List ℕ) → FileValue → List ℕ
page_text bytes value = page_of (offsets_told InPage bytes) value
