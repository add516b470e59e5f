use Rattle.std.proofs.Common.{◌+◌, ◌<◌, ◌^◌, ◌++◌, length, append-nil, arith}
use Rattle.std.specs.Slice.Iter.{iter_rest}
use Rattle.hunk_base.proofs.SitesLemmas.{AreApart-few}
use Rattle.hunk_base.proofs.page.Page.walk.Goals as goal

pub invariant_of-result : goal.invariant_of-result
invariant_of-result g c =
    let few = AreApart-few (record { limit = 2 ^ 32 + 3; entries = c.args.self.now }) c.iters-table.ensures.spaced in
    let small : length c.args.self.now < 2 ^ 64 = omega (arith, few) in
    rw (c.iter.ensures.rest, append-nil (iter_rest c.iters-table.result.0 ++ c.iters-table.result.1), c.iters-table.ensures.rest) small
