-- The longwords are a file if it may end here, and otherwise end too early.
use Rattle.std.proofs.Common.{sym, subst, arith}
use Rattle.hunk_words.specs.Machine.{IsComplete}
use Rattle.hunk_words.specs.Event.{events}
use Rattle.hunk_words.specs.Taker.{sizes_told}
use Rattle.hunk_words.specs.State.{around}
use Rattle.hunk_words.specs.DecoderCore.{fields_read}
use Rattle.hunk_words.proofs.DecoderCoreLemmas.{FirstOffence-partial, FirstOffence-unexpected, TellsFile-complete}
use Rattle.hunk_words.proofs.decoder_core.Core.end.Goals as goal

pub returns-then-is_complete-clause-answer : goal.returns-then-is_complete-clause-answer
returns-then-is_complete-clause-answer g c = λ ws stands.
    let b = stands.good c.in-None.is in
    let s = c.args.self.state.state in (
      omega arith,
      TellsFile-complete _ _ c.args.self.state ws b
          (subst IsComplete b.reached.stack (c.is_complete.ensures.yes c.if-is_complete.true (around s (sizes_told g.T.Taker.KIND (events (fields_read g.T.Taker.KIND ws)))))),
    )

pub returns-then-rest-gt0-clause-answer : goal.returns-then-rest-gt0-clause-answer
returns-then-rest-gt0-clause-answer g c = λ ws stands. rw c.fault.ensures (FirstOffence-partial _ _ c.args.self.state ws c.args.rest (stands.good c.in-None.is) (omega arith))

pub returns-else-is_complete-clause-answer : goal.returns-else-is_complete-clause-answer
returns-else-is_complete-clause-answer g c = λ ws stands.
    let b = stands.good c.in-None.is in
    let s = c.args.self.state.state in
    rw c.fault-else-is_complete.ensures
    (FirstOffence-unexpected _ _ c.args.self.state ws c.args.rest b (omega arith)
    (λ complete. c.is_complete.ensures.no c.if-is_complete.false (around s (sizes_told g.T.Taker.KIND (events (fields_read g.T.Taker.KIND ws)))) (subst IsComplete (sym b.reached.stack) complete)))
