-- The part that has begun is the first that a file may not have.
use Rattle.std.proofs.Common.{arith}
use Rattle.hunk_addresses.proofs.BasesFileLemmas.{too_many}
use Rattle.hunk_addresses.proofs.bases_file.FoundBases.end_part.Goals as goal

pub returns-then-len-eq-MOST_HUNKS-clause-rejected : goal.returns-then-len-eq-MOST_HUNKS-clause-rejected
returns-then-len-eq-MOST_HUNKS-clause-rejected g c bytes stands =
    too_many c.args.self.now.bases.items c.args.self.now.digits bytes (omega (arith, c.len.ensures, c.if-len-eq-MOST_HUNKS.true)) (omega (arith, c.if-self-gt0.true)) stands
