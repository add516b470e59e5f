-- The longwords so far were taken, and no error is kept.
use Rattle.std.proofs.Common.{◌≡◌, ℕ, ◌*◌, ◌-◌, ◌≤◌, List, ◌++◌, take, length, None}
use Rattle.hunk_base.specs.Longwords.{longwords}
use Rattle.hunk_words.specs.DecoderCore.{StandsFor, kept}
use Rattle.hunk_words.proofs.decoder_core.Core.words.Given as goal

abbrev pub invariant-loop-taken : goal.invariant-loop-taken
invariant-loop-taken g l = record {
  open_yet : kept l.self ≡ None;
  within : 4 * l.taken ≤ length l.bytes;
  given : g.T.Taker.given l.self.taker ≡ g.T.Taker.given l.fn.self.taker;
  stands : (ws : List ℕ) → StandsFor g.T.Taker.KIND g.T.Taker.stands_for l.fn.self ws → StandsFor g.T.Taker.KIND g.T.Taker.stands_for l.self (ws ++ longwords (take (4 * l.taken) l.bytes));
}

abbrev pub decreases-loop-taken : goal.decreases-loop-taken
decreases-loop-taken g l = l.count - l.taken
