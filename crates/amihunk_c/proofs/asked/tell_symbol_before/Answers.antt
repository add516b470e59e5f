-- There is such a symbol.
use Rattle.std.proofs.Common.{subst}
use Rattle.amihunk_c.specs.Facts.{HunkFacts}
use Rattle.amihunk_c.specs.SymbolBefore.{IsBefore}
use Rattle.amihunk_c.proofs.AskedLemmas.{TellsBefore-found}
use Rattle.amihunk_c.proofs.asked.tell_symbol_before.Goals as goal

pub returns-in-Some : goal.returns-in-Some
returns-in-Some c =
    TellsBefore-found _ c.in-Ok.facts c.args.offset c.in-Some.symbol.now c.args.told.now c.of.result c.code.result c.in-Ok.ensures
    (subst (λ (facts : HunkFacts). IsBefore facts.symbols c.args.offset c.in-Some.symbol.now) c.facts.view_is c.in-Some.ensures) c.of.ensures c.code.ensures
