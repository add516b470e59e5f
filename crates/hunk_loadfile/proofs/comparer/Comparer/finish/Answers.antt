use Rattle.std.proofs.Common.{◌≡◌, ◌∙◌, ℕ, List, Some, length, ap, sym}
use Rattle.hunk_loadfile.specs.LoadHunk.{FileHunk}
use Rattle.hunk_loadfile.specs.declared.comparison.Comparison.{Comparison}
use Rattle.hunk_loadfile.specs.declared.difference.Difference.TheVariants.{HunkCount}
use Rattle.hunk_loadfile.proofs.ComparerLemmas.{IsComparedWith-from, number-ended}
use Rattle.hunk_loadfile.proofs.FirstDifferenceLemmas.{first_difference-counted, first_difference-uncounted}
use Rattle.hunk_loadfile.proofs.comparer.Comparer.finish.Goals as goal
use Rattle.hunk_loadfile.proofs.comparer.Comparer.finish.Goals.{then-first-second, else-first-second}

pub returns-clause-compared : goal.returns-clause-compared
returns-clause-compared g c = λ bytes tells.
    let comparer = c.args.self in
    let stands = tells.1.stands in
    let firsts : length c.hunks.result.now ≡ length comparer.first = ap (λ (hunks : List FileHunk). length hunks) c.hunks.ensures.value in
    let seconds : c.ended-second.result ≡ length stands.hunks = c.ended-second.ensures ∙ number-ended comparer _ _ stands in
    elim c.if-first-second.branch [
      | then-first-second w ↦
          IsComparedWith-from comparer c.if-first-second.found bytes tells
          (ap (λ (found : Comparison g.row.A.Denot). found.difference) w.found-is
          ∙ ap (λ (count : ℕ). Some (HunkCount count c.ended-second.result)) firsts
          ∙ ap (λ (count : ℕ). Some (HunkCount (length comparer.first) count)) seconds
          ∙ first_difference-uncounted comparer.first stands.hunks (λ same. w.if-first-second.true (firsts ∙ same ∙ sym seconds)))
          (ap (λ (found : Comparison g.row.A.Denot). found.info_difference) w.found-is)
          (ap (λ (found : Comparison g.row.A.Denot). found.symbol) w.found-is)
      | else-first-second w ↦
          IsComparedWith-from comparer c.if-first-second.found bytes tells
          (ap (λ (found : Comparison g.row.A.Denot). found.difference) w.found-is ∙ stands.found.difference ∙ sym (first_difference-counted comparer.first stands.hunks (sym firsts ∙ w.if-first-second.false ∙ seconds)))
          (ap (λ (found : Comparison g.row.A.Denot). found.info_difference) w.found-is)
          (ap (λ (found : Comparison g.row.A.Denot). found.symbol) w.found-is)
    ]
