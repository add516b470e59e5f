use Rattle.std.proofs.Common.{◌≡◌, ◌∙◌, ap, refl, map, subst}
use Rattle.std.proofs.lemmas.Result.{IfOk-weaker}
use Rattle.clap.specs.Words.{App, FailsBy, app_of, fault_of, is_simple, is_simple_and_free, subcommand_of}
use Rattle.amihunk.specs.Syntax.{command_line}
use Rattle.amihunk.proofs.command_line.matches_of.Goals as goal

pub returns : goal.returns
returns g c =
    let app_is : app_of c.in_ok-command.field-0 ≡ command_line = c.in_ok-command.ensures in
    let words = map g.S.AsStr.text c.args.words.now in
    let parse = c.try_get_matches_from in
    record {
      fails = subst (λ (a : App). FailsBy (fault_of a words) parse.result) app_is (parse.ensures.kinds (ap is_simple_and_free app_is ∙ refl));
      rows = IfOk-weaker parse.result _ _ (λ m has. (has (ap is_simple app_is ∙ refl)).1 ∙ ap (λ (a : App). subcommand_of a words) app_is) parse.ensures.matches;
    }
