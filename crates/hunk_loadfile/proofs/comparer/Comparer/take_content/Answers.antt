use Rattle.std.proofs.Common.{◌≡◌, ◌∙◌, ap}
use Rattle.hunk_loadfile.specs.Comparer.{content_at}
use Rattle.hunk_loadfile.proofs.ComparerLemmas.{MatchResult-content}
use Rattle.hunk_loadfile.proofs.comparer.Comparer.take_content.Goals as goal

pub returns-clause-compares : goal.returns-clause-compares
returns-clause-compares g c = λ told watch ws h are.
    let old = c.args.self.now in
    let beside : c.content_at-content.result.now ≡ content_at old.first watch.position.ended = c.content_at-content.ensures ∙ ap (content_at old.first) (c.ended.ensures ∙ h.builds.ended) in
    MatchResult-content old c.take.new.self c.take.result told watch ws c.content_at-content.result.now c.args.bytes.now beside are h c.take.ensures
