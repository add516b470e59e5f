-- The next hunk is expected.
use Rattle.std.proofs.Common.{sym, subst, Ok}
use Rattle.hunk_words.specs.State.{EndsHunk}
use Rattle.hunk_words.proofs.StateLemmas.{EndsHunk-next}
use Rattle.hunk_words.proofs.type_steps.hunk_end.Goals as goal

pub returns-then-state : goal.returns-then-state
returns-then-state c =
    let state = c.args.state in
    subst (λ q. EndsHunk state (Ok q)) (sym c.then-then-state.ensures) (EndsHunk-next state.due state.file state.last state.hunk state.limit c.in-Load.is c.if-state.true)
