-- The bytes so far were taken, and no error is kept.
use Rattle.std.proofs.Common.{◌≡◌, ℕ, List, ◌++◌, take, None}
use Rattle.hunk_words.specs.Decoder.{StandsFor}
use Rattle.hunk_words.specs.DecoderCore.{kept}
use Rattle.hunk_words.proofs.decoder.Decoder.push_all.Given as goal

abbrev pub invariant-loop-byte : goal.invariant-loop-byte
invariant-loop-byte g l = record {
  open_yet : kept l.self.core ≡ None;
  given : g.T.Taker.given l.self.core.taker ≡ g.T.Taker.given l.fn.self.core.taker;
  stands : (bytes : List ℕ) → StandsFor g.T.Taker.KIND g.T.Taker.stands_for l.fn.self bytes → StandsFor g.T.Taker.KIND g.T.Taker.stands_for l.self (bytes ++ take l.byte-index l.piece);
}
