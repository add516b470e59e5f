use Rattle.hunk_objects.proofs.GlobalsLemmas.{IsUnitHunk-more, with_more}
use Rattle.hunk_objects.proofs.globals.with_symbols.Goals as goal

pub invariant_of-result : goal.invariant_of-result
invariant_of-result g c = IsUnitHunk-more _ _ c.args.more.items c.in_ok-append.ensures.items c.hunk.invariant c.requires

pub returns-clause-value : goal.returns-clause-value
returns-clause-value g c = with_more _ c.args.hunk _ c.args.more.items c.in_ok-append.ensures.items c.hunk.view_is

pub returns-clause-valid : goal.returns-clause-valid
returns-clause-valid g c = IsUnitHunk-more _ _ c.args.more.items c.in_ok-append.ensures.items c.hunk.invariant c.requires
