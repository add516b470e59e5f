use Rattle.std.proofs.Common.{◌≡◌, ◌∙◌, ◌++◌, ◌∷◌, [], List, not, ap, sym}
use Rattle.std.specs.Option.{is_some}
use Rattle.hunk_loadfile.specs.LoadHunk.{FileHunk}
use Rattle.hunk_loadfile.specs.Difference.{hunks_difference, with_bytes}
use Rattle.hunk_loadfile.specs.declared.comparison.Comparison.{Comparison}
use Rattle.hunk_loadfile.proofs.ComparisonLemmas.{HasFound-kept, HasFound-new, difference-kept, difference-new}
use Rattle.hunk_loadfile.proofs.comparison.Comparison.add_hunk.Goals as goal
use Rattle.hunk_loadfile.proofs.comparison.Comparison.add_hunk.Goals.{then-is_none, else-is_none}

pub returns-then-is_none-2 : goal.returns-then-is_none-2
returns-then-is_none-2 g c = λ firsts seconds content h unlike at is.
    let old = c.args.self.now in
    let first = c.args.first.now in
    let number = c.args.number in
    let all : List FileHunk = seconds ++ with_bytes c.args.second content ∷ [] in
    let difference : c.if-is_none.self.difference ≡ hunks_difference 0 firsts all = elim c.if-is_none.branch [
      | then-is_none w ↦
          ap (λ (found : Comparison g.row.A.Denot). found.difference) w.self-is
          ∙ difference-new old firsts seconds first c.args.second content number at is h w.hunk_difference_with-self.result (c.is_none.ensures ∙ ap not w.if-is_none.true) (w.hunk_difference_with-self.ensures content unlike)
      | else-is_none w ↦
          ap (λ (found : Comparison g.row.A.Denot). found.difference) w.self-is
          ∙ difference-kept old firsts seconds first c.args.second content number at is h (c.is_none.ensures ∙ ap not w.if-is_none.false)
    ] in
    let info : c.if-is_none.self.info_difference ≡ old.info_difference = elim c.if-is_none.branch [
      | then-is_none w ↦ ap (λ (found : Comparison g.row.A.Denot). found.info_difference) w.self-is
      | else-is_none w ↦ ap (λ (found : Comparison g.row.A.Denot). found.info_difference) w.self-is
    ] in
    HasFound-new old firsts seconds first c.args.second content number at is h c.if-is_none.self.difference c.hunk_info_difference-self.result c.symbol_there.result difference
    (ap is_some (sym info) ∙ c.is_none-2.ensures ∙ ap not c.if-is_none-2.true) c.hunk_info_difference-self.ensures c.symbol_there.ensures

pub returns-else-is_none-2 : goal.returns-else-is_none-2
returns-else-is_none-2 g c = λ firsts seconds content h unlike at is.
    let old = c.args.self.now in
    let first = c.args.first.now in
    let number = c.args.number in
    let all : List FileHunk = seconds ++ with_bytes c.args.second content ∷ [] in
    let difference : c.if-is_none.self.difference ≡ hunks_difference 0 firsts all = elim c.if-is_none.branch [
      | then-is_none w ↦
          ap (λ (found : Comparison g.row.A.Denot). found.difference) w.self-is
          ∙ difference-new old firsts seconds first c.args.second content number at is h w.hunk_difference_with-self.result (c.is_none.ensures ∙ ap not w.if-is_none.true) (w.hunk_difference_with-self.ensures content unlike)
      | else-is_none w ↦
          ap (λ (found : Comparison g.row.A.Denot). found.difference) w.self-is
          ∙ difference-kept old firsts seconds first c.args.second content number at is h (c.is_none.ensures ∙ ap not w.if-is_none.false)
    ] in
    let info : c.if-is_none.self.info_difference ≡ old.info_difference = elim c.if-is_none.branch [
      | then-is_none w ↦ ap (λ (found : Comparison g.row.A.Denot). found.info_difference) w.self-is
      | else-is_none w ↦ ap (λ (found : Comparison g.row.A.Denot). found.info_difference) w.self-is
    ] in
    let symbol : c.if-is_none.self.symbol ≡ old.symbol = elim c.if-is_none.branch [
      | then-is_none w ↦ ap (λ (found : Comparison g.row.A.Denot). found.symbol) w.self-is
      | else-is_none w ↦ ap (λ (found : Comparison g.row.A.Denot). found.symbol) w.self-is
    ] in
    HasFound-kept old firsts seconds first c.args.second content number at is h c.if-is_none.self.difference c.if-is_none.self.info_difference c.if-is_none.self.symbol difference info symbol
    (ap is_some (sym info) ∙ c.is_none-2.ensures ∙ ap not c.if-is_none-2.false)
