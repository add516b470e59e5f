-- What a reader that shows the longwords of a file to a watcher stands for.
use Rattle.std.specs.Prelude.{◌≡◌, ℕ, List, Some, None}
use Rattle.hunk_words.specs.FirstOffence.{OffendsAt}
use Rattle.hunk_words.specs.DecoderCore.{StandsFor as CoreStandsFor, kept}
use Rattle.hunk_base.specs.Longwords.{longwords}
use Rattle.hunk_base.specs.Splitter.{StandsFor as SplitterStandsFor}
use Rattle.hunk_words.specs.declared.due.Due.{Due}
use Rattle.hunk_words.specs.declared.event.Event.{Event}
use Rattle.hunk_words.specs.declared.event.FileKind.{FileKind}
use Rattle.hunk_base.specs.declared.fault.Fault.{Fault}
use Rattle.hunk_base.specs.declared.fault.Refusal.TheVariants as refusal_is
use Rattle.hunk_files.specs.Watched.{latest_first}
use Rattle.hunk_files.specs.declared.watched_reader.WatchedReader.{WatchedReader}

-- Its core took the longwords, and its watcher was shown them.
pub record Reads {W B : Type 0} (kind : FileKind) (stands_for : B → List Event → Type 0) (watches : FileKind → W → List (Due × ℕ) → Type 0) (reader : WatchedReader W B) (ws : List ℕ) : Type 0 where
  pub none : kept reader.core ≡ None
  pub core : CoreStandsFor kind stands_for reader.core ws
  pub watcher : watches kind reader.watcher (latest_first kind ws)

-- If no error is kept, it read the longwords. A fault that is kept is their first offence.
pub record WordsStand {W B : Type 0} (kind : FileKind) (stands_for : B → List Event → Type 0) (watches : FileKind → W → List (Due × ℕ) → Type 0) (reader : WatchedReader W B) (ws : List ℕ) : Type 0 where
  pub good : reader.refusal ≡ None → Reads kind stands_for watches reader ws
  pub faulty : (fault : Fault) → reader.refusal ≡ Some (refusal_is.Fault fault) → OffendsAt kind ws fault.place fault.reason

-- If no error is kept, the bytes of an unfinished longword are held.
pub record StandsFor {W B : Type 0} (kind : FileKind) (stands_for : B → List Event → Type 0) (watches : FileKind → W → List (Due × ℕ) → Type 0) (reader : WatchedReader W B) (bytes : List ℕ) : Type 0 where
  pub held : reader.refusal ≡ None → SplitterStandsFor reader.splitter bytes
  pub words : WordsStand kind stands_for watches reader (longwords bytes)

-- it was fed some bytes, possibly none
abbrev pub WasFed : {W B : Type 0} → FileKind → (B → List Event → Type 0) → (FileKind → W → List (Due × ℕ) → Type 0) → WatchedReader W B → Type 0
WasFed kind stands_for watches reader = (bytes : List ℕ) × StandsFor kind stands_for watches reader bytes
