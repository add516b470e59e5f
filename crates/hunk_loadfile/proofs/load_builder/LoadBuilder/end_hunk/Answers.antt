use Rattle.std.proofs.Common.{◌++◌, List, ◌∷◌, [], ◌∙◌, ap, subst, sym}
use Rattle.hunk_loadfile.specs.LoadHunk.{FileHunk}
use Rattle.hunk_loadfile.specs.Partial.{HaveEnded}
use Rattle.hunk_loadfile.proofs.LoadBuilderLemmas.{steps-end}
use Rattle.hunk_loadfile.proofs.load_builder.LoadBuilder.end_hunk.Goals as goal

pub returns-in-Ok-end_hunk-clause-steps : goal.returns-in-Ok-end_hunk-clause-steps
returns-in-Ok-end_hunk-clause-steps g c =
    steps-end c.args.self.now c.push_reserved.new.self c.end_hunk.new.self c.in-Ok-end_hunk.hunk c.in-Ok-end_hunk.ensures.ends (c.push_reserved.ensures.items ∙ ap (λ hs. hs ++ (c.in-Ok-end_hunk.hunk ∷ [])) c.reserve.ensures.items)

pub returns-in-Err-end_hunk-clause-steps : goal.returns-in-Err-end_hunk-clause-steps
returns-in-Err-end_hunk-clause-steps g c = λ told watch h. record {
  builds = c.in-Err-end_hunk.ensures.ends told watch h.builds;
  ended = subst (λ (hunks : List FileHunk). HaveEnded hunks told watch) (sym c.reserve.ensures.items) h.ended;
}
