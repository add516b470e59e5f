-- What was read is explained; its end is found only at the reader's end.
use Rattle.std.proofs.Common.{Ok, ap, ◌∙◌}
use Rattle.hunk_base.proofs.StreamsLemmas.{HasRead-weaker}
use Rattle.hunk_files.specs.Explanation.{IsExplained}
use Rattle.hunk_files.proofs.FollowerLemmas.{EndsWith-read}
use Rattle.hunk_files.proofs.explain.explain_with.Goals as goal

pub returns-clause-explained : goal.returns-clause-explained
returns-clause-explained g c = HasRead-weaker _ _ _ (IsExplained g.T.Taker.KIND c.in_ok-explanation.field-0) (λ bytes stands. c.in_ok-explanation.ensures.ok bytes stands) c.in_ok-read_through.ensures.read

pub returns-clause-ended : goal.returns-clause-ended
returns-clause-ended g c =
    let read = c.in_ok-read_through.ensures.read in
    EndsWith-read g.T.Taker.KIND read.bytes c.in_ok-explanation.field-0 (g.R.Source.ended c.read_through.new.reader) c.in_ok-read_through.field-0
    (λ is. c.read_through.ensures.ended (c.in_ok-read_through.was ∙ ap (λ b. Ok b) is))
    (λ is. let kept = c.read_through.ensures.faulty (c.in_ok-read_through.was ∙ ap (λ b. Ok b) is) in (kept.0, read.holds.words.core.faulty kept.0 kept.1))
    (c.in_ok-explanation.ensures.ok read.bytes read.holds)
