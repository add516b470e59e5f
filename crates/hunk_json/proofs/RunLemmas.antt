-- The document of a file that was read.
use Rattle.std.proofs.Common.{◌≡◌, ◌^◌, ◌<◌, ◌≤◌, ℕ, List, Vec, [], ◌∷◌, ◌++◌, length, Option, ap, arith}
use Rattle.std.proofs.lemmas.List.{length-append}
use Rattle.hunk_base.specs.Streams.{HasRead}
use Rattle.hunk_base.proofs.StreamsLemmas.{HasRead-weaker}
use Rattle.hunk_words.specs.declared.event.FileKind.{FileKind}
use Rattle.hunk_words.specs.declared.event.FileKind.TheVariants as kind_is
use Rattle.hunk_objects.specs.ProgramUnit.{ObjectUnit}
use Rattle.hunk_loadfile.specs.LoadHunk.{FileHunk}
use Rattle.hunk_files.specs.FileValue.{FileValue, IsOfKind, kind_of_bytes}
use Rattle.hunk_files.specs.FileValue.FileValue.{load_file, object_file}
use Rattle.hunk_files.specs.HunkFile.{value_of}
use Rattle.hunk_files.specs.declared.file_decoder.File.{File}
use Rattle.hunk_files.specs.declared.watcher.Watched.{Watched}
use Rattle.hunk_tool.proofs.FileTextLemmas.{HasText}
use Rattle.hunk_json.specs.ContentOffsets.{IsPlaced}
use Rattle.hunk_json.specs.Document.{document}
use Rattle.hunk_json.specs.Page.{page_head, page_of, page_tail, page_text}
use Rattle.hunk_json.specs.Run.{file_json, json_text_in, line_of}
use Rattle.hunk_json.specs.declared.content_offsets.ContentOffsets.{ContentOffsets}
use Rattle.hunk_json.specs.declared.form.JsonForm.{JsonForm}
use Rattle.hunk_json.specs.declared.form.JsonForm.TheVariants.{InPage}
use Rattle.hunk_json.proofs.FileSizeLemmas.{most_document}
use Rattle.hunk_json.proofs.LoadSizeLemmas.{load-fits}
use Rattle.hunk_json.proofs.ObjectSizeLemmas.{object-fits}

-- What was read is a file with this text.
pub HasText-line : {A : Type 0} (form : JsonForm) (file : Watched (File (Vec ObjectUnit A) (List FileHunk)) (ContentOffsets A)) (left left_then : Option (List ℕ))
    → HasRead left left_then (IsPlaced form file) → HasRead left left_then (HasText (json_text_in form) (line_of form file.watcher.found.items (value_of file.value)))
HasText-line form file left left_then read =
    HasRead-weaker left left_then (IsPlaced form file) (HasText (json_text_in form) (line_of form file.watcher.found.items (value_of file.value)))
    (λ bytes is. record { value = value_of file.value; is_file = is.value; is_text = ap (λ offsets. line_of form offsets (value_of file.value)) is.offsets }) read

-- So it is with its page.
pub HasText-page : {A : Type 0} (file : Watched (File (Vec ObjectUnit A) (List FileHunk)) (ContentOffsets A)) (left left_then : Option (List ℕ))
    → HasRead left left_then (IsPlaced InPage file) → HasRead left left_then (HasText page_text (page_of file.watcher.found.items (value_of file.value)))
HasText-page file left left_then read =
    HasRead-weaker left left_then (IsPlaced InPage file) (HasText page_text (page_of file.watcher.found.items (value_of file.value)))
    (λ bytes is. record { value = value_of file.value; is_file = is.value; is_text = ap (λ offsets. page_of offsets (value_of file.value)) is.offsets }) read

-- ---- the text is short

fits : (form : JsonForm) (offsets : List ℕ) (kind : FileKind) (value : FileValue) (bytes : List ℕ) → IsOfKind kind value bytes → length (document form (file_json form offsets value)) ≤ most_document
fits form offsets kind_is.Object (object_file units) bytes is = object-fits form offsets units bytes is
fits form offsets kind_is.Load (load_file hunks) bytes is = load-fits form offsets hunks bytes is
fits form offsets kind_is.Object (load_file hunks) bytes is = absurd is
fits form offsets kind_is.Load (object_file units) bytes is = absurd is

-- with the end of its line it is shorter than 2^64 bytes
pub line-fits : {A : Type 0} (form : JsonForm) (file : Watched (File (Vec ObjectUnit A) (List FileHunk)) (ContentOffsets A)) (left left_then : Option (List ℕ))
    → HasRead left left_then (IsPlaced form file) → length (line_of form file.watcher.found.items (value_of file.value)) < 2 ^ 64
line-fits form file left left_then read =
    let offsets = file.watcher.found.items in
    let value = value_of file.value in
    omega (arith, length-append (document form (file_json form offsets value)) (10 ∷ []), fits form offsets (kind_of_bytes read.bytes) value read.bytes read.holds.value)

-- ---- pages

short-head : length page_head < 2 ^ 32
unfolding page_head
short-head = omega arith

short-tail : length page_tail < 2 ^ 32
unfolding page_tail
short-tail = omega arith

-- with what begins and what ends the page, too
pub page-fits : {A : Type 0} (file : Watched (File (Vec ObjectUnit A) (List FileHunk)) (ContentOffsets A)) (left left_then : Option (List ℕ))
    → HasRead left left_then (IsPlaced InPage file) → length (page_of file.watcher.found.items (value_of file.value)) < 2 ^ 64
page-fits file left left_then read =
    let offsets = file.watcher.found.items in
    let value = value_of file.value in
    let told = document InPage (file_json InPage offsets value) in
    omega (arith, length-append (page_head ++ told) page_tail, length-append page_head told, fits InPage offsets (kind_of_bytes read.bytes) value read.bytes read.holds.value, short-head, short-tail)
