-- Laws about what load files mean: what keeps it, and what tells it.
use Rattle.std.specs.Prelude.{◌≡◌, ◌↔◌, ℕ, ◌*◌, ◌<◌, ◌≤◌, List, length, map, None}
use Rattle.hunk_loadfile.specs.Difference.{first_difference}
use Rattle.hunk_loadfile.specs.InfoDifference.{first_info_difference, info}
use Rattle.hunk_loadfile.specs.LoadHunk.{FileHunk}
use Rattle.hunk_loadfile.specs.Meaning.{MeansTheSame}
use Rattle.hunk_loadfile.specs.NormalForm.{normal_form, normal_hunk}
use Rattle.hunk_loadfile.specs.Patching.{byte_or_zero}
use Rattle.hunk_loadfile.specs.Rules.{IsLoadFile}
use Rattle.hunk_loadfile.specs.Stripping.{stripped}
use Rattle.hunk_loadfile.specs.Trimming.{trimmed}
use Rattle.hunk_loadfile.specs.WrittenForm.{written_form}

-- ---- what changes nothing the second time

abbrev pub IsDoneOnce : (List FileHunk → List FileHunk) → Type 0
IsDoneOnce change = (hunks : List FileHunk) → change (change hunks) ≡ change hunks

abbrev pub StrippedOnce : Type 0
StrippedOnce = IsDoneOnce stripped

abbrev pub TrimmedOnce : Type 0
TrimmedOnce = IsDoneOnce trimmed

abbrev pub StrippedAndTrimmedOnce : Type 0
StrippedAndTrimmedOnce = IsDoneOnce (λ hunks. trimmed (stripped hunks))

abbrev pub NormalOnce : Type 0
NormalOnce = IsDoneOnce normal_form

-- ---- what keeps the meaning

abbrev pub KeepsTheMeaning : (List FileHunk → List FileHunk) → Type 0
KeepsTheMeaning change = (hunks : List FileHunk) → MeansTheSame (change hunks) hunks

abbrev pub StrippedMeansTheSame : Type 0
StrippedMeansTheSame = KeepsTheMeaning stripped

abbrev pub TrimmedMeansTheSame : Type 0
TrimmedMeansTheSame = KeepsTheMeaning trimmed

abbrev pub NormalMeansTheSame : Type 0
NormalMeansTheSame = KeepsTheMeaning normal_form

-- ---- what tells the meaning

-- Two load files mean the same exactly if their normal forms are written as the same longwords.
abbrev pub OneNormalForm : Type 0
OneNormalForm =
    (first second : List FileHunk) → IsLoadFile first → IsLoadFile second
    → (written_form (normal_form first) ≡ written_form (normal_form second)) ↔ MeansTheSame first second

-- They mean the same exactly if there is no first difference.
abbrev pub NoDifference : Type 0
NoDifference =
    (first second : List FileHunk) → IsLoadFile first → IsLoadFile second
    → (first_difference first second ≡ None) ↔ MeansTheSame first second

-- Two load files with equally many hunks have the same symbols and debug blocks exactly if there is no first
-- difference in them.
abbrev pub NoInfoDifference : Type 0
NoInfoDifference =
    (first second : List FileHunk) → length first ≡ length second
    → (first_info_difference first second ≡ None) ↔ (map info first ≡ map info second)

-- No beginning of a content in whole longwords after which all bytes are 0 is shorter than that of the normal form.
abbrev pub NormalIsShortest : Type 0
NormalIsShortest =
    (hunk : FileHunk) (longwords : ℕ) → ((i : ℕ) → 4 * longwords ≤ i → i < length hunk.content → byte_or_zero hunk.content i ≡ 0)
    → length (normal_hunk hunk).content ≤ 4 * longwords
