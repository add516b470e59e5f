-- The bytes so far were taken, and no error is kept.
use Rattle.std.proofs.Common.{◌≡◌, ℕ, List, ◌++◌, take, None}
use Rattle.hunk_files.specs.Follower.{StandsFor, refusal_of}
use Rattle.hunk_files.proofs.follower.Follower.feed.Given as goal

abbrev pub invariant-loop-byte : goal.invariant-loop-byte
invariant-loop-byte g l = record {
  open_yet : refusal_of l.self ≡ None;
  stands : (bytes : List ℕ) → StandsFor g.T.Taker.KIND g.T.Taker.stands_for l.fn.self bytes → StandsFor g.T.Taker.KIND g.T.Taker.stands_for l.self (bytes ++ take l.byte-index l.piece);
}
