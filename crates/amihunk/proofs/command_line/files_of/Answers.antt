use Rattle.std.proofs.Common.{◌≡◌, ◌∙◌, None, Some, ap, codes, rules}
use Rattle.std.proofs.lemmas.Result.{IfOk-weaker}
use Rattle.clap.specs.Words.{all_of, found_of, rows_of}
use Rattle.clap.specs.Walk.{texts}
use Rattle.clap.proofs.WalkLemmas.{raw_values-rows}
use Rattle.amihunk.proofs.command_line.files_of.Goals as goal

pub returns-in-Some : goal.returns-in-Some
returns-in-Some c =
    let found = found_of c.args.values.now in
    let read : Some (texts c.in-Some.files.now) ≡ all_of (codes "file") (rows_of found) = c.in-Some.ensures ∙ raw_values-rows found (codes "file") in
    IfOk-weaker c.to_vec.result _ _ (λ v copied. rw (← read) (ap texts (copied (λ x y same. same)))) c.to_vec.ensures.items_if_clones_equal

pub returns-in-None : goal.returns-in-None
returns-in-None c =
    let found = found_of c.args.values.now in
    let none : None ≡ all_of (codes "file") (rows_of found) = c.in-None.ensures ∙ raw_values-rows found (codes "file") in
    rw (← none) (search rules)
