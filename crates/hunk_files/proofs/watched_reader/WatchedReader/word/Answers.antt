-- The longword is the next one, or offends there.
use Rattle.std.proofs.Common.{sym, subst, arith, ◌∷◌}
use Rattle.hunk_files.specs.Watched.{latest_first}
use Rattle.hunk_files.proofs.WatchedLemmas.{latest-next, length-latest}
use Rattle.hunk_files.proofs.WatchedReaderLemmas.{keeps-one}
use Rattle.hunk_files.proofs.watched_reader.WatchedReader.word.Goals as goal

pub returns-in-Ok-take-clause-stands : goal.returns-in-Ok-take-clause-stands
returns-in-Ok-take-clause-stands g c = λ ws reads.
    let kind = g.B.Taker.KIND in
    let watches = g.W.Watcher.stands_for in
    let read = c.due-due.ensures.read ws c.args.word reads.none reads.core in
    let few = length-latest kind ws in
    let behind = reads.core.good reads.none in
    record {
      good = λ none. record {
        none = c.in-Ok.ensures.kept;
        core = c.in-Ok.ensures.stands ws reads.core;
        watcher = subst (λ before. watches kind c.take.new.self before) (sym (latest-next kind ws c.args.word c.due-due.result read))
            (subst (λ k. watches k c.take.new.self ((c.due-due.result, c.args.word) ∷ latest_first kind ws)) c.KIND.ensures
            (c.in-Ok-take.ensures (latest_first kind ws) (omega (arith, few, behind.few)) (subst (λ k. watches k c.args.self.now.watcher (latest_first kind ws)) (sym c.KIND.ensures) reads.watcher)));
      };
      faulty = λ fault is. absurd (keeps-one _ _ c.requires is);
    }
