-- What is known of a file and the output after a text about the file was printed, or why it was not.
use Rattle.std.specs.Prelude.{◌≡◌, ℕ, Bool, List, IsTrue, if◌then◌else◌}
use Rattle.hunk_json.specs.Page.{page_text}
use Rattle.hunk_json.specs.Run.{json_text, json_text_in}
use Rattle.hunk_json.specs.declared.form.JsonForm.TheVariants.{WithContent}
use Rattle.hunk_lint.specs.Run.{lint_text}
use Rattle.hunk_tool.specs.Check.{check_text}
use Rattle.hunk_tool.specs.FileSystem.{MayBeMissing, OfFile, OfWholeFile}
use Rattle.hunk_tool.specs.FileText.{IsTextFault, IsWritten, of_value}
use Rattle.hunk_files.specs.FileValue.{FileValue}
use Rattle.hunk_tool.specs.Show.{show_text}
use Rattle.hunk_store.specs.declared.failure.Failure.{Failure}
use Rattle.hunk_store.specs.declared.failure.Failure.TheVariants.{Opening, Printing, Tool}
use Rattle.hunk_store.specs.Output.{IsFlushed, IsNothing, Printed, ends_between}
use Rattle.hunk_store.specs.Store.{Contents}
use Rattle.hunk_commands.specs.declared.text.ShowText.TheVariants.{Json, JsonWithContent, Listing, Page}
use Rattle.hunk_commands.specs.declared.text.Text.{Text}
use Rattle.hunk_commands.specs.declared.text.Text.TheVariants.{Line, Lint, Shown}

-- the text about a file of these bytes and this value
abbrev pub text_of : Text → (bytes : List ℕ) → FileValue → List ℕ
text_of Line = of_value check_text
text_of Lint = lint_text
text_of (Shown Listing) = of_value show_text
text_of (Shown Json) = of_value json_text
text_of (Shown JsonWithContent) = json_text_in WithContent
text_of (Shown Page) = page_text

-- what `check` prints
abbrev pub checked : (lint : Bool) → Text
checked lint = if lint then Lint else Line

-- the text about the file, of the kind that its first four bytes tell, is what the output has taken
abbrev pub IsWrittenOf : Text → Contents → (file : List ℕ) → Printed → Type 0
IsWrittenOf text contents file printed = OfWholeFile (contents file) (IsWritten (text_of text) printed.old printed.new)

-- it was printed
abbrev pub IsTold : Text → Contents → (file : List ℕ) → Printed → Type 0
IsTold text contents file printed = IsWrittenOf text contents file printed × IsFlushed printed

-- why the text was not printed: the file cannot be opened, the output did not pass on what it had taken, or a
-- run over the file failed
abbrev pub IsTextFailure : Text → Contents → (file : List ℕ) → Printed → Failure → Type 0
IsTextFailure text contents file printed (Opening name reason) =
    (name.now ≡ file) × MayBeMissing (contents file) × IsNothing printed
IsTextFailure text contents file printed Printing = IsWrittenOf text contents file printed × IsTrue printed.failed
IsTextFailure text contents file printed (Tool fault) =
    OfFile (contents file) (λ input. IsTextFault (text_of text) (ends_between input printed) fault)
IsTextFailure text contents file printed _ = ⊥
