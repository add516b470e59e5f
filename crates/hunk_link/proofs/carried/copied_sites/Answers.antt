use Rattle.std.proofs.Common.{ap, subst, sym, length, arith}
use Rattle.hunk_base.specs.Page.{LieWithin}
use Rattle.hunk_base.specs.Sites.{StandFrom}
use Rattle.hunk_loadfile.proofs.PatchingLemmas.{StandFrom-wider}
use Rattle.hunk_link.proofs.carried.copied_sites.Goals as goal

pub carry-requires-clause-behind : goal.carry-requires-clause-behind
carry-requires-clause-behind g c =
    let sites = c.args.sites.now in
    let count = length c.args.content.now in (
      0,
      subst (λ entries. LieWithin 0 0 entries) (sym (ap (λ made. made.entries) c.new-left.ensures)) tt,
      subst (λ rest. StandFrom 0 count rest) (sym c.walk.ensures.rest) (StandFrom-wider 0 0 sites.limit count sites.entries (omega arith) c.requires.inside c.walk.ensures.apart),
    )
