-- What arguments make of the command to which they are added in turn.
use Rattle.std.proofs.Common.{◌≡◌, ◌∙◌, ◌||◌, ◌∷◌, List, [], false, map, sym, ap, ap₂, subst}
use Rattle.clap.specs.Words.{AddsArg, AddsInTurn, app_of, rule_of}
use Rattle.clap.specs.declared.builder.arg.Arg.{Arg}
use Rattle.clap.specs.declared.builder.command.Command.{Command}
use Rattle.clap.specs.declared.builder.command.Command.TheViews.{out-Command}
use Rattle.amihunk.specs.Syntax.{AreLocal, with_rules}

-- each of the arguments gives the command its rule
pub added_rules : (arguments : List Arg) (old new : Command) → AddsInTurn AddsArg old arguments new
    → AreLocal arguments → app_of new ≡ with_rules (app_of old) (map rule_of arguments)
added_rules [] old new same local = ap app_of (sym same)
added_rules (a ∷ rest) old new added local =
    added_rules rest added.0 new added.2 local.1 ∙ ap (λ app. with_rules app (map rule_of rest)) (added.1.shape local.0)

-- a command without arguments that its subcommands have too stays one
pub added_local : (arguments : List Arg) (old new : Command) → AddsInTurn AddsArg old arguments new
    → AreLocal arguments → (out-Command old).has_globals ≡ false → (out-Command new).has_globals ≡ false
added_local [] old new same local none = subst (λ c. (out-Command c).has_globals ≡ false) same none
added_local (a ∷ rest) old new added local none =
    added_local rest added.0 new added.2 local.1 (added.1.globals ∙ ap₂ (λ x y. x || y) none local.0)
