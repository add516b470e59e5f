-- What was found odd about the longwords of a file so far.
use Rattle.std.specs.Prelude.{◌≡◌, ℕ, List, length}
use Rattle.hunk_words.specs.declared.due.Due.{Due}
use Rattle.hunk_words.specs.declared.event.FileKind.{FileKind}
use Rattle.hunk_lint.specs.Oddity.{lints_of}
use Rattle.hunk_lint.specs.Watch.{IsWatchOf}
use Rattle.hunk_lint.specs.declared.lints.Lints.{Lints}

-- It is that of these longwords, the latest first.
pub record IsLintsOf {A : Type 0} (kind : FileKind) (lints : Lints A) (before : List (Due × ℕ)) : Type 0 where
  pub watch : IsWatchOf lints.watch before
  pub place : lints.place ≡ length before
  pub found : lints.found.items ≡ lints_of kind before
