-- The byte ends a longword.
use Rattle.std.proofs.Common.{◌∙◌, ap, sym, subst, ◌++◌}
use Rattle.std.specs.Prelude.{option_to_list}
use Rattle.hunk_base.specs.Longwords.{longwords}
use Rattle.hunk_files.specs.Follower.{FollowsWords}
use Rattle.hunk_files.proofs.FollowerLemmas.{keeps-one}
use Rattle.hunk_files.proofs.follower.Follower.push.Goals as goal

pub returns-in-Some-clause-stands : goal.returns-in-Some-clause-stands
returns-in-Some-clause-stands g c = λ bytes stands.
    let held = stands.held c.requires in
    let words = c.push.ensures.word bytes held ∙ ap (λ more. longwords bytes ++ option_to_list more) c.in-Some.is in
    record {
      held = λ none. rw c.word.ensures.same (c.push.ensures.stands bytes held);
      words = subst (λ ws. FollowsWords g.T.Taker.KIND g.T.Taker.stands_for c.word.new.self ws) (sym words)
          (c.word.ensures.stands (longwords bytes) (record { core = stands.words.core; path = stands.words.path; stopped = λ fault is. absurd (keeps-one _ _ c.requires is) }));
    }
