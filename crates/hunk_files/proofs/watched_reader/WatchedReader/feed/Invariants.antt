-- The bytes so far were taken, and no error is kept.
use Rattle.std.proofs.Common.{◌≡◌, ℕ, List, ◌++◌, take, None}
use Rattle.hunk_files.specs.WatchedReader.{StandsFor}
use Rattle.hunk_files.proofs.watched_reader.WatchedReader.feed.Given as goal

abbrev pub invariant-loop-byte : goal.invariant-loop-byte
invariant-loop-byte g l = record {
  open_yet : l.self.refusal ≡ None;
  stands : (bytes : List ℕ) → StandsFor g.B.Taker.KIND g.B.Taker.stands_for g.W.Watcher.stands_for l.fn.self bytes → StandsFor g.B.Taker.KIND g.B.Taker.stands_for g.W.Watcher.stands_for l.self (bytes ++ take l.byte-index l.piece);
}
