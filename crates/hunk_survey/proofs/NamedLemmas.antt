-- What is found of the file with a name.
use Rattle.std.proofs.Common.{◌≡◌, List, ℕ, Bool, Option, sym}
use Rattle.std.specs.Str.{IsUtf8, is_utf8}
use Rattle.std.proofs.lemmas.Bool.{cond-false, cond-true, false_from_ne_true}
use Rattle.std.proofs.lemmas.Str.{IsUtf8-from_is_utf8, is_utf8-from_IsUtf8}
use Rattle.hunk_tool.specs.FileSystem.{FileContent, IsReaderOf}
use Rattle.hunk_tool.specs.FileSystem.FileContent.{missing}
use Rattle.hunk_survey.specs.Finding.{IsFound, IsOfFile, content_of}
use Rattle.hunk_survey.specs.declared.find.FindOptions.{FindOptions}
use Rattle.hunk_survey.specs.declared.finding.Finding.{Finding}
use Rattle.hunk_survey.specs.declared.finding.Finding.TheVariants.{Object, Load, Refused, Unread, Unopened, Directory, NotRegular}

-- ---- a file that was opened

-- what is found of its reader is found of it
pub IsOfFile-read : (options : FindOptions) (content : FileContent) (finding : Finding) (left left_then : Option (List ℕ)) (failed ended : Bool)
    → IsReaderOf content (record { left = left; left_then = left_then; failed = failed; ended = ended })
    → IsFound options.digest left left_then failed ended finding → IsOfFile options content finding
IsOfFile-read options content (Object units hunks) left left_then failed ended reader found = record { input = _; is_reader = reader; holds = found }
IsOfFile-read options content (Load hunks digest) left left_then failed ended reader found = record { input = _; is_reader = reader; holds = found }
IsOfFile-read options content (Refused fault) left left_then failed ended reader found = record { input = _; is_reader = reader; holds = found }
IsOfFile-read options content Unread left left_then failed ended reader found = record { input = _; is_reader = reader; holds = found }
IsOfFile-read options content Unopened left left_then failed ended reader found = absurd found
IsOfFile-read options content Directory left left_then failed ended reader found = absurd found
IsOfFile-read options content NotRegular left left_then failed ended reader found = absurd found

-- ---- the name

-- the content under a name, and what no name has
pub content-named : (contents : List ℕ → FileContent) (name : List ℕ) → IsUtf8 name → contents name ≡ content_of contents name
content-named contents name utf8 = sym (cond-true (is_utf8 name) (contents name) missing (is_utf8-from_IsUtf8 name utf8))

pub content-unnamed : (contents : List ℕ → FileContent) (name : List ℕ) → (IsUtf8 name → ⊥) → missing ≡ content_of contents name
content-unnamed contents name not =
    sym (cond-false (is_utf8 name) (contents name) missing (false_from_ne_true (is_utf8 name) (λ is. not (IsUtf8-from_is_utf8 name is))))
