-- A file whose longwords were shown to a watcher.
use Rattle.std.specs.Prelude.{ℕ, Bool, true, false, List, reverse}
use Rattle.hunk_base.specs.Longwords.{longwords}
use Rattle.hunk_words.specs.Due.{dues_read}
use Rattle.hunk_words.specs.declared.due.Due.{Due}
use Rattle.hunk_words.specs.declared.due.Due.TheVariants.{ContentSize}
use Rattle.hunk_words.specs.declared.event.FileKind.{FileKind}
use Rattle.hunk_files.specs.declared.watcher.Watched.{Watched}

-- the longwords of a file, each with what was due there, the latest first
abbrev pub latest_first : FileKind → List ℕ → List (Due × ℕ)
latest_first kind ws = reverse (dues_read kind ws)

-- the size of a hunk's content is due
abbrev pub is_content_size : Due → Bool
is_content_size ContentSize = true
is_content_size due = false

-- The value is that of the bytes, and the watcher was shown their longwords.
pub record IsWatchedOf {V W : Type 0} (kind : FileKind) (is_value : V → List ℕ → Type 0) (watches : FileKind → W → List (Due × ℕ) → Type 0) (watched : Watched V W) (bytes : List ℕ) : Type 0 where
  pub value : is_value watched.value bytes
  pub watcher : watches kind watched.watcher (latest_first kind (longwords bytes))
