-- The load file breaks no rule, and is valid by its type: so it has room for its symbols and debug
-- blocks, and its written forms are short.
use Rattle.hunk_loadfile.proofs.RulesLemmas.{carried_longwords-accepted}
use Rattle.hunk_loadfile.proofs.WrittenFormLengthLemmas.{IsShortEnough-from}
use Rattle.std.proofs.Common.{◌≤◌, subst, sym, rules, arith}
use Rattle.std.proofs.lemmas.Grind.{common_steps}
use Rattle.hunk_loadfile.specs.Rules.{carried_longwords, most_carried}
use Rattle.hunk_link.proofs.linking.load_file.Goals as goal

pub returns-clause-short : goal.returns-clause-short
returns-clause-short g c =
    let none = c.in-Ok.ensures.accepted in
    IsShortEnough-from c.in-Ok.file c.hunks-hunks.ensures.valid (subst (λ hunks. carried_longwords hunks ≤ most_carried) (sym none.1) (carried_longwords-accepted c.args.hunks.items none.0))

-- `grind` at once: `search`, which Rattle tries before it, is slow here
pub unreachable-requires : goal.unreachable-requires
unreachable-requires g c = grind (rules, arith, common_steps)
