-- Nothing is told of what is no directory.
use Rattle.std.proofs.Common.{inl, refl}
use Rattle.hunk_commands.specs.Explain.{IsDirectoryOrNone}
use Rattle.hunk_commands.proofs.ExplainLemmas.{tells_nothing}
use Rattle.hunk_commands.proofs.explain.explain_unread.Goals as goal

pub returns-else-matches : goal.returns-else-matches
returns-else-matches g c = tells_nothing g.W.Sink.taken g.W.Sink.failed c.args.errors.now IsDirectoryOrNone (inl refl)
