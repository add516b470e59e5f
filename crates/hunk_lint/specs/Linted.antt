-- A file that was read, with what is odd about its longwords.
use Rattle.std.specs.Prelude.{◌≡◌, ℕ, List, Vec}
use Rattle.hunk_base.specs.Longwords.{longwords}
use Rattle.hunk_objects.specs.ProgramUnit.{ObjectUnit}
use Rattle.hunk_loadfile.specs.LoadHunk.{FileHunk}
use Rattle.hunk_files.specs.FileValue.{FileValue, IsOfItsKind, kind_of_bytes}
use Rattle.hunk_files.specs.FileValue.FileValue.{object_file, load_file}
use Rattle.hunk_files.specs.declared.file_decoder.File.{File}
use Rattle.hunk_files.specs.declared.file_decoder.File.TheVariants.{Object, Load}
use Rattle.hunk_files.specs.declared.watcher.Watched.{Watched}
use Rattle.hunk_lint.specs.Oddity.{longword_lints}
use Rattle.hunk_lint.specs.declared.linted.Linted.{Linted}
use Rattle.hunk_lint.specs.declared.lints.Lints.{Lints}
use Rattle.hunk_lint.specs.declared.oddity.LongwordLint.{LongwordLint}

abbrev pub value_of : {A : Type 0} → File (Linted (Vec ObjectUnit A) A) (Linted (List FileHunk) A) → FileValue
value_of (Object linted) = object_file linted.value.items
value_of (Load linted) = load_file linted.value

abbrev pub oddities_of : {A : Type 0} → File (Linted (Vec ObjectUnit A) A) (Linted (List FileHunk) A) → List LongwordLint
oddities_of (Object linted) = linted.oddities.items
oddities_of (Load linted) = linted.oddities.items

-- a file that was read, with what was found odd beside its value
abbrev pub linted_file : {A : Type 0} → Watched (File (Vec ObjectUnit A) (List FileHunk)) (Lints A) → File (Linted (Vec ObjectUnit A) A) (Linted (List FileHunk) A)
linted_file watched = elim watched.value [
  | Object units ↦ Object (record { value = units; oddities = watched.watcher.found })
  | Load hunks ↦ Load (record { value = hunks; oddities = watched.watcher.found })
]

-- The bytes are a file with this value, and this is odd about their longwords.
abbrev pub IsLinted : {A : Type 0} → File (Linted (Vec ObjectUnit A) A) (Linted (List FileHunk) A) → List ℕ → Type 0
IsLinted file bytes = IsOfItsKind (value_of file) bytes × (oddities_of file ≡ longword_lints (kind_of_bytes bytes) (longwords bytes))
