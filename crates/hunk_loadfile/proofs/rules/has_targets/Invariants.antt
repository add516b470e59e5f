-- The sites so far name hunks, so the remaining ones decide.
use Rattle.std.proofs.Common.{◌≡◌, nat_lt}
use Rattle.std.specs.List.{list_all}
use Rattle.hunk_loadfile.specs.Rules.{has_targets}
use Rattle.hunk_loadfile.proofs.rules.has_targets.Given as goal

abbrev pub invariant-loop-target : goal.invariant-loop-target
invariant-loop-target g l = has_targets l.count l.hunk ≡ list_all (λ site. nat_lt site.1 l.count) l.target-iterator
