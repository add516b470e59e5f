use Rattle.std.proofs.Common.{◌≡◌, ◌++◌, length, map}
use Rattle.amihunk_c.specs.Keeping.{names_in}
use Rattle.amihunk_c.proofs.kept.names_in.Given as goal

abbrev pub invariant-loop-name : goal.invariant-loop-name
invariant-loop-name l = map (λ name. name.now) l.names.items ++ names_in l.rest ≡ names_in l.list

abbrev pub decreases-loop-name : goal.decreases-loop-name
decreases-loop-name l = length l.rest
