-- The longword is the next one, or offends there.
use Rattle.std.proofs.Common.{[], sym, subst, refl}
use Rattle.hunk_words.proofs.FirstOffenceLemmas.{offends-last}
use Rattle.hunk_files.specs.Path.{IsPathOf}
use Rattle.hunk_files.proofs.FollowerLemmas.{blocks-few, front-valid, keeps-one}
use Rattle.hunk_files.proofs.PathLemmas.{blocks-next}
use Rattle.hunk_files.proofs.follower.Follower.word.Goals as goal

pub returns-in-Ok-clause-stands : goal.returns-in-Ok-clause-stands
returns-in-Ok-clause-stands g c = λ ws stands.
    let kind = g.T.Taker.KIND in
    let read = c.due-due.ensures.read ws c.args.word c.requires stands.core in
    record {
      core = c.in-Ok.ensures.stands ws stands.core;
      path = λ none. subst (λ types. IsPathOf c.after-self.result types) (sym (blocks-next kind ws c.args.word c.due-due.result read))
          (c.after-self.ensures _ (blocks-few kind g.T.Taker.stands_for c.args.self.now ws c.requires stands) (stands.path c.requires));
      stopped = λ fault is. absurd (keeps-one _ _ c.in-Ok.ensures.kept is);
    }

pub returns-in-Err-clause-stands : goal.returns-in-Err-clause-stands
returns-in-Err-clause-stands g c = λ ws stands.
    let kind = g.T.Taker.KIND in
    let core = c.in-Err.ensures.stands ws stands.core in
    record {
      core = core;
      path = λ none. absurd (keeps-one _ _ none c.in-Err.ensures.kept);
      stopped = λ fault is. record {
        front = ws;
        behind = [];
        parts = refl;
        at_place = offends-last kind ws c.args.word fault.place fault.reason (front-valid kind g.T.Taker.stands_for c.args.self.now ws c.requires stands) (core.faulty fault is);
        due = c.due-due.ensures.due ws c.requires stands.core;
        path = stands.path c.requires;
      };
    }
