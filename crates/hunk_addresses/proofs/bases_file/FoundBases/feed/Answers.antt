-- The byte is in the piece.
use Rattle.std.proofs.Common.{arith}
use Rattle.std.proofs.lemmas.Grind.{common_steps}
use Rattle.std.proofs.lemmas.Result.{err_from_is_err_and}
use Rattle.hunk_addresses.proofs.BasesFileLemmas.{rejected-longer}
use Rattle.hunk_addresses.proofs.bases_file.FoundBases.feed.Goals as goal

pub returns-in_err-push-clause-rejected : goal.returns-in_err-push-clause-rejected
returns-in_err-push-clause-rejected g c =
    let p = err_from_is_err_and c.from_residual.result c.from_residual.ensures.1 in
    rw (p.1, p.2) (λ bytes stands. rejected-longer bytes c.args.piece.now c.loop-byte.byte-index _ _ c.loop-byte-test.true (c.in_err-push.ensures.rejected _ (c.loop-byte.invariant bytes stands)))

-- `grind` at once: `search`, which Rattle tries before it, is slow here
pub loop-byte-preserved : goal.loop-byte-preserved
loop-byte-preserved g c = grind (arith, common_steps)

pub returns-clause-stands : goal.returns-clause-stands
returns-clause-stands g c = grind (arith, common_steps)
