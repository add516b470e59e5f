-- The lines of the names so far were put, of which there are that many.
use Rattle.std.proofs.Common.{◌≤◌, length, map}
use Rattle.hunk_origins.specs.LinkExplanation.{uses_text}
use Rattle.hunk_origins.proofs.BegunLemmas.{Begun}
use Rattle.hunk_origins.proofs.LinkExplanationLemmas.{uses_rest}
use Rattle.hunk_origins.proofs.link_explanation_text.write_uses.Given as goal

abbrev pub invariant-loop-index : goal.invariant-loop-index
invariant-loop-index g l = record {
  within : l.index ≤ length l.uses;
  begun :
      let names = map g.N.FileName.bytes l.names in
      Begun g.W.Sink.taken g.W.Sink.failed l.fn.text l.text (uses_text names l.uses) (uses_rest names l.index l.uses);
}
