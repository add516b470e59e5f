-- Events determine limits and sites: from the start of a file on, what is expected has the limit
-- that they determine.
use Rattle.std.proofs.Common.{[], ◌∷◌, refl}
use Rattle.hunk_words.specs.Kinds.Kind.{object_start, load_start}
use Rattle.hunk_words.specs.Event.{events}
use Rattle.hunk_words.specs.SiteContext.{context_after, initial_context}
use Rattle.hunk_words.specs.declared.event.FileKind.TheVariants.{Object, Load}
use Rattle.hunk_words.proofs.SiteContextSeenLemmas.{context_after-seen}
use Rattle.hunk_words.proofs.SiteContextLimitLemmas.{now-taken, now-limit}
use Rattle.hunk_words.proofs.laws.events_tell_limits.Goals as goal

pub returns-clause-object : goal.returns-clause-object
returns-clause-object c = λ fs s limit taken is. (
  now-limit Object (context_after Object initial_context (events fs)).position s limit (now-taken Object initial_context fs (object_start ∷ []) s (tt, refl) taken) is,
  context_after-seen Object initial_context fs,
)

pub returns-clause-load : goal.returns-clause-load
returns-clause-load c = λ fs s limit taken is. (
  now-limit Load (context_after Load initial_context (events fs)).position s limit (now-taken Load initial_context fs (load_start ∷ []) s (tt, refl, refl, refl) taken) is,
  context_after-seen Load initial_context fs,
)
