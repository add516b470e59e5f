-- The offsets so far were taken.
use Rattle.std.proofs.Common.{◌≡◌, ℕ, ◌*◌, ◌+◌, ◌-◌, ◌≤◌, List, ◌++◌, take, length}
use Rattle.hunk_words.specs.DecoderCore.{Behind, in_offsets}
use Rattle.hunk_base.specs.Longwords.{longwords}
use Rattle.hunk_words.specs.declared.state.State.{State}
use Rattle.hunk_words.proofs.decoder_core.take_offsets.Given as goal

abbrev pub invariant-loop-index : goal.invariant-loop-index
invariant-loop-index g l = record {
  given : g.T.Taker.given l.taker ≡ g.T.Taker.given l.fn.taker;
  behind : (state : State) (more : ℕ) (ws : List ℕ) → length (longwords l.bytes) ≤ more → Behind g.T.Taker.KIND (g.T.Taker.stands_for l.fn.taker) (in_offsets state more l.target l.place) ws
      → Behind g.T.Taker.KIND (g.T.Taker.stands_for l.taker) (in_offsets state (more - l.index) l.target (l.place + l.index)) (ws ++ longwords (take (4 * l.index) l.bytes));
}
