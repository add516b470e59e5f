-- One more event.
use Rattle.std.proofs.Common.{◌∙◌, subst, slice_index, arith, refl}
use Rattle.std.proofs.lemmas.Result.{on_ok_weaker}
use Rattle.hunk_words.specs.PartialHunk.{HoldsSites}
use Rattle.hunk_words.specs.Taker.{context_of}
use Rattle.hunk_words.specs.Kinds.{hunk_kind_of}
use Rattle.hunk_words.specs.declared.event.Event.TheVariants as event_is
use Rattle.hunk_words.specs.declared.event.FileKind.TheVariants.{Object}
use Rattle.hunk_words.proofs.TakerLemmas.{judges-other}
use Rattle.hunk_files.proofs.CountersLemmas.{content_limit-any, quiet-other, quiet-seen, stands-kept, stands-unit}
use Rattle.hunk_files.proofs.counters.ObjectCounterTaker.take.Goals as goal

pub returns-in-Site-clause-takes : goal.returns-in-Site-clause-takes
returns-in-Site-clause-takes g c = λ told stands few. rw c.in-Site.is
    (on_ok_weaker c.add_site.result (λ holds. stands-kept told (event_is.Site c.in-Site.offset c.in-Site.target) c.args.self.now _ (λ e. absurd (cc)) (λ e. absurd (cc)) stands refl refl holds)
    (c.add_site.ensures.holds _ _ stands.holds.holds_hunk))

pub returns-in-Site-clause-judges : goal.returns-in-Site-clause-judges
returns-in-Site-clause-judges g c = λ told stands few. rw c.in-Site.is (c.add_site.ensures.judges _ _ stands.holds.holds_hunk)

pub returns-in-RefSite-clause-takes : goal.returns-in-RefSite-clause-takes
returns-in-RefSite-clause-takes g c = λ told stands few. rw c.in-RefSite.is
    (on_ok_weaker c.add_site-in-RefSite.result (λ holds. stands-kept told (event_is.RefSite c.in-RefSite.offset) c.args.self.now _ (λ e. absurd (cc)) (λ e. absurd (cc)) stands refl refl holds)
    (c.add_site-in-RefSite.ensures.holds _ _ stands.holds.holds_hunk))

pub returns-in-RefSite-clause-judges : goal.returns-in-RefSite-clause-judges
returns-in-RefSite-clause-judges g c = λ told stands few. rw c.in-RefSite.is (c.add_site-in-RefSite.ensures.judges _ _ stands.holds.holds_hunk)

pub returns-in-Content-clause-takes : goal.returns-in-Content-clause-takes
returns-in-Content-clause-takes g c = λ told stands few. rw c.in-Content.is
    (on_ok_weaker c.begin.result (λ holds. stands-kept told (event_is.Content c.in-Content.kind c.in-Content.bits c.in-Content.size) c.args.self.now _ (λ e. absurd (cc)) (λ e. absurd (cc)) stands refl refl
    (subst (λ limit. HoldsSites limit (context_of Object told).seen c.begin.new.hunk) (c.content_bytes.ensures ∙ content_limit-any (slice_index (context_of Object told).position.sizes (context_of Object told).position.ended) (hunk_kind_of c.in-Content.kind) c.in-Content.size) holds))
    (c.begin.ensures.holds _ _ stands.holds.holds_hunk))

pub returns-in-Unit-clause-takes : goal.returns-in-Unit-clause-takes
returns-in-Unit-clause-takes g c = λ told stands few. rw c.in-Unit.is
    (stands-unit told c.args.self.now _ stands (omega (arith, few, stands.few, c.saturating_add-self.ensures)) refl refl)

pub returns-in-HunkEnd-clause-takes : goal.returns-in-HunkEnd-clause-takes
returns-in-HunkEnd-clause-takes g c = λ told stands few. rw c.in-HunkEnd.is (c.end_hunk.ensures.takes told stands few)

pub returns-in_default : goal.returns-in_default
returns-in_default g c =
    let quiet = quiet-other c.args.event c.in_default.not-Content c.in_default.not-Site c.in_default.not-RefSite c.in_default.not-HunkEnd in
    record {
      takes = λ told stands few. stands-kept told c.args.event c.args.self.now c.args.self.now c.in_default.not-Unit c.in_default.not-HunkEnd stands refl refl
          (quiet-seen Object (context_of Object told) c.args.event quiet (λ limit seen. HoldsSites limit seen c.args.self.now.hunk) stands.holds.holds_hunk);
      refuses = λ told stands few. tt;
      judges = λ told stands few. judges-other (context_of Object told) c.args.event tt c.in_default.not-Site c.in_default.not-RefSite;
      given = refl;
    }
