-- A file of either kind whose longwords were shown to a watcher.
use Rattle.std.specs.Prelude.{ℕ, List, Vec}
use Rattle.hunk_words.specs.declared.due.Due.{Due}
use Rattle.hunk_words.specs.declared.event.FileKind.{FileKind}
use Rattle.hunk_objects.specs.ProgramUnit.{ObjectUnit}
use Rattle.hunk_loadfile.specs.LoadHunk.{FileHunk}
use Rattle.hunk_files.specs.FileValue.{IsOfItsKind, kind_of_bytes}
use Rattle.hunk_files.specs.HunkFile.{value_of}
use Rattle.hunk_files.specs.Watched.{IsWatchedOf}
use Rattle.hunk_files.specs.declared.file_decoder.File.{File}
use Rattle.hunk_files.specs.declared.file_decoder.File.TheVariants.{Object, Load}
use Rattle.hunk_files.specs.declared.watcher.Watched.{Watched}

-- the same file, with the watcher beside it
abbrev pub watched_file : {O L W : Type 0} → File (Watched O W) (Watched L W) → Watched (File O L) W
watched_file (Object watched) = record { value = Object watched.value; watcher = watched.watcher }
watched_file (Load watched) = record { value = Load watched.value; watcher = watched.watcher }

-- The bytes are a file of the kind that its first four bytes tell, and the watcher was shown its longwords.
abbrev pub IsWatchedFile : {A W : Type 0} → (watches : FileKind → W → List (Due × ℕ) → Type 0) → Watched (File (Vec ObjectUnit A) (List FileHunk)) W → List ℕ → Type 0
IsWatchedFile watches watched bytes = IsWatchedOf (kind_of_bytes bytes) (λ file. IsOfItsKind (value_of file)) watches watched bytes
