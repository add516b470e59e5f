-- The longwords so far were taken.
use Rattle.std.proofs.Common.{◌≡◌, ◌*◌, ◌+◌, ◌<◌, ◌^◌, List, ◌++◌, take, length}
use Rattle.hunk_words.specs.Event.{word_events}
use Rattle.hunk_base.specs.Longwords.{longwords}
use Rattle.hunk_words.specs.declared.event.Event.{Event}
use Rattle.hunk_words.proofs.numbers.take_each_word.Given as goal

abbrev pub invariant-loop-index : goal.invariant-loop-index
invariant-loop-index g l = record {
  given : g.T.Taker.given l.taker ≡ g.T.Taker.given l.fn.taker;
  takes : (told : List Event) → g.T.Taker.stands_for l.fn.taker told → length told + length (longwords l.bytes) < 2 ^ 29 → g.T.Taker.stands_for l.taker (told ++ word_events (longwords (take (4 * l.index) l.bytes)));
}
