-- One more event.
use Rattle.std.proofs.Common.{◌∙◌, [], ◌∷◌, ◌++◌, length, sym, ap, subst, arith, refl}
use Rattle.std.proofs.lemmas.Result.{on_ok_weaker}
use Rattle.hunk_words.specs.PartialHunk.{HoldsSites}
use Rattle.hunk_words.specs.Taker.{context_of}
use Rattle.hunk_words.specs.declared.event.Event.TheVariants as event_is
use Rattle.hunk_words.specs.declared.event.FileKind.TheVariants.{Load}
use Rattle.hunk_words.proofs.TakerLemmas.{judges-other}
use Rattle.hunk_files.specs.Counters.{LoadHolds}
use Rattle.hunk_files.proofs.CountersLemmas.{stands-one, limit-told, ended-one, quiet-other, quiet-watch}
use Rattle.hunk_files.proofs.counters.LoadCounterTaker.take.Goals as goal

pub returns-in-Site-clause-takes : goal.returns-in-Site-clause-takes
returns-in-Site-clause-takes g c = λ told stands few. rw c.in-Site.is
    (on_ok_weaker c.add_site.result (λ holds. stands-one told (event_is.Site c.in-Site.offset c.in-Site.target) _
    (record { same_sizes = stands.holds.same_sizes; same_ended = stands.holds.same_ended; holds_hunk = holds }) (omega arith)) (c.add_site.ensures.holds _ _ stands.holds.holds_hunk))

pub returns-in-Site-clause-judges : goal.returns-in-Site-clause-judges
returns-in-Site-clause-judges g c = λ told stands few. rw c.in-Site.is (c.add_site.ensures.judges _ _ stands.holds.holds_hunk)

pub returns-in-RefSite-clause-takes : goal.returns-in-RefSite-clause-takes
returns-in-RefSite-clause-takes g c = λ told stands few. rw c.in-RefSite.is
    (on_ok_weaker c.add_site-in-RefSite.result (λ holds. stands-one told (event_is.RefSite c.in-RefSite.offset) _
    (record { same_sizes = stands.holds.same_sizes; same_ended = stands.holds.same_ended; holds_hunk = holds }) (omega arith)) (c.add_site-in-RefSite.ensures.holds _ _ stands.holds.holds_hunk))

pub returns-in-RefSite-clause-judges : goal.returns-in-RefSite-clause-judges
returns-in-RefSite-clause-judges g c = λ told stands few. rw c.in-RefSite.is (c.add_site-in-RefSite.ensures.judges _ _ stands.holds.holds_hunk)

pub returns-in-Ok-clause-takes : goal.returns-in-Ok-clause-takes
returns-in-Ok-clause-takes g c = λ told stands few. rw c.in-HunkSize.is
    (stands-one told (event_is.HunkSize c.in-HunkSize.bits c.in-HunkSize.size) _ (record { same_sizes = c.in-Ok.ensures.items ∙ ap (λ sizes. sizes ++ c.in-HunkSize.size ∷ []) stands.holds.same_sizes; same_ended = stands.holds.same_ended; holds_hunk = stands.holds.holds_hunk }) (omega arith))

pub returns-in-Content-clause-takes : goal.returns-in-Content-clause-takes
returns-in-Content-clause-takes g c = λ told stands few. rw c.in-Content.is
    (on_ok_weaker c.begin.result (λ holds. stands-one told (event_is.Content c.in-Content.kind c.in-Content.bits c.in-Content.size) _ (record {
      same_sizes = stands.holds.same_sizes;
      same_ended = stands.holds.same_ended;
      holds_hunk =
          subst (λ limit. HoldsSites limit (context_of Load told).seen c.begin.new.hunk) (limit-told (context_of Load told) c.args.self.now c.from-limit.result stands.holds (c.from-limit.ensures ∙ c.size.ensures)) holds;
    }) (omega arith)) (c.begin.ensures.holds _ _ stands.holds.holds_hunk))

pub returns-in-HunkEnd-clause-takes : goal.returns-in-HunkEnd-clause-takes
returns-in-HunkEnd-clause-takes g c = λ told stands few.
    let ended = ended-one c.args.self.now.ended (context_of Load told).position.ended c.saturating_add-self.result (length told) stands.holds.same_ended stands.few few c.saturating_add-self.ensures in
    rw c.in-HunkEnd.is
    (stands-one told event_is.HunkEnd _ (record { same_sizes = stands.holds.same_sizes; same_ended = ended.0; holds_hunk = c.end.ensures _ _ stands.holds.holds_hunk }) ended.1)

pub returns-in_default : goal.returns-in_default
returns-in_default g c =
    let quiet = quiet-other c.args.event c.in_default.not-Content c.in_default.not-Site c.in_default.not-RefSite c.in_default.not-HunkEnd in
    record {
      takes = λ told stands few. stands-one told c.args.event _
          (subst (λ w. LoadHolds w c.args.self.now) (sym (quiet-watch Load (context_of Load told) c.args.event quiet c.in_default.not-HunkSize)) stands.holds) (omega arith);
      refuses = λ told stands few. tt;
      judges = λ told stands few. judges-other (context_of Load told) c.args.event tt c.in_default.not-Site c.in_default.not-RefSite;
      given = refl;
    }
