-- One more number: what is taken, its event, and how the taker's result judges it.
use Rattle.std.proofs.Common.{◌≡◌, ℕ, zero, suc, List, [], ◌∷◌, ◌++◌, Option, Some, None, Result, Ok, Err, refl, sym, ap, subst, ◌∙◌, rules, tests}
use Rattle.hunk_words.specs.Kinds.{Kind, Field, field, low, type_of}
use Rattle.hunk_words.specs.FaultTable.{Passes, judged, and_then}
use Rattle.hunk_words.specs.Kinds.Kind.{object_start, load_start, block_type, offset, ext_entry, ref_offset, symbol_entry, short_offset}
use Rattle.hunk_words.specs.Machine.{Takes, due, next, push}
use Rattle.hunk_words.specs.SiteRules.{limit_of, site_judged, seen_after, seen_all}
use Rattle.hunk_words.specs.Reading.{Progress, start_of, field_judged}
use Rattle.hunk_words.specs.Event.{event_at, event_of, events, with_event, at_end}
use Rattle.hunk_words.specs.SiteContext.{SiteContext, context_after, initial_context, position_after, seen_after_event}
use Rattle.hunk_words.specs.Taker.{JudgesEvent, JudgesNone, JudgesSite, context_of, sizes_told}
use Rattle.hunk_words.specs.State.{Steps, IsState, view, sizes_with}
use Rattle.hunk_words.specs.Numbers.{Reached, MayCome, NumberAnswered}
use Rattle.hunk_words.specs.declared.event.Event.{Event}
use Rattle.hunk_words.specs.declared.event.Event.TheVariants as event_is
use Rattle.hunk_words.specs.declared.event.FileKind.{FileKind}
use Rattle.hunk_words.specs.declared.event.FileKind.TheVariants.{Object, Load}
use Rattle.hunk_base.specs.declared.fault.Reason.{Reason}
use Rattle.hunk_base.specs.declared.fault.Reason.TheVariants.{SiteOutside, SiteOverlap}
use Rattle.hunk_words.specs.declared.kinds.BlockType.{BlockType}
use Rattle.hunk_words.specs.declared.kinds.BlockType.TheVariants.{End}
use Rattle.hunk_base.specs.declared.sites.SiteRefusal.{SiteRefusal}
use Rattle.hunk_base.specs.declared.sites.SiteRefusal.TheVariants.{Outside, Overlap, OutOfMemory}
use Rattle.hunk_words.specs.declared.state.State.{State}
use Rattle.hunk_words.specs.declared.state.Step.{Step}
use Rattle.hunk_words.proofs.SiteContextLimitLemmas.{now-taken, now-limit}
use Rattle.hunk_words.proofs.SiteContextSeenLemmas.{context_after-seen}

-- ---- lists that grow at their end

pub with_event-append : (o : Option Event) (es fs : List Event) → with_event o es ++ fs ≡ with_event o (es ++ fs)
with_event-append None es fs = refl
with_event-append (Some e) es fs = refl

pub events-append : (fs gs : List Field) → events (fs ++ gs) ≡ events fs ++ events gs
events-append [] gs = refl
events-append (f ∷ fs) gs = ap (with_event (event_of f)) (events-append fs gs) ∙ sym (with_event-append (event_of f) (events fs) (events gs))

pub context_after-append : (file : FileKind) (v : SiteContext) (es fs : List Event) → context_after file v (es ++ fs) ≡ context_after file (context_after file v es) fs
context_after-append file v [] fs = refl
context_after-append file v (e ∷ es) fs = context_after-append file (record { position = position_after file v.position e; seen = seen_after_event v.seen e }) es fs

pub seen_all-append : (seen : List ℕ) (fs gs : List Field) → seen_all seen (fs ++ gs) ≡ seen_all (seen_all seen fs) gs
seen_all-append seen [] gs = refl
seen_all-append seen (f ∷ fs) gs = seen_all-append (seen_after f.kind f.number seen) fs gs

pub takes-one : (s : List Kind) (n : ℕ) → Passes (due s) n → Takes s (field (due s) n ∷ []) (next s n)
takes-one [] n passes = let no = passes.passes in absurd cc
takes-one (k ∷ s) n passes = (refl, passes, refl)

pub takes-append : (fs : List Field) (s : List Kind) (e : List Kind) (n : ℕ) → Takes s fs e → Passes (due e) n → Takes s (fs ++ field (due e) n ∷ []) (next e n)
takes-append [] s e n taken passes = subst (λ t. Takes t (field (due e) n ∷ []) (next e n)) (sym taken) (takes-one e n passes)
takes-append (f ∷ fs) [] e n taken passes = absurd taken
takes-append (f ∷ fs) (k ∷ s) e n taken passes = (taken.0, taken.1, takes-append fs (push k f.number s) e n taken.2 passes)

-- ---- the sizes of a header, and the limit of a hunk

sizes-one : (file : FileKind) (v : SiteContext) (o : Option Event) → (context_after file v (with_event o [])).position.sizes ≡ sizes_with o v.position.sizes
sizes-one file v None = refl
sizes-one file v (Some (event_is.HunkSize bits size)) = refl
sizes-one file v (Some e) = refl

pub sizes_told-append : (file : FileKind) (es : List Event) (o : Option Event) → sizes_told file (es ++ with_event o []) ≡ sizes_with o (sizes_told file es)
sizes_told-append file es o = ap (λ v. v.position.sizes) (context_after-append file initial_context es (with_event o [])) ∙ sizes-one file (context_of file es) o

-- what events say about the limit where an offset is expected
pub record LimitTold (watch : SiteContext) (k : Kind) (seen : List ℕ) : Type 0 where
  pub same_limit : (limit : ℕ) → limit_of k ≡ Some limit → limit ≡ watch.position.limit
  pub same_seen : watch.seen ≡ seen

pub LimitTold-taken : (file : FileKind) (fs : List Field) (s : List Kind) → Takes (start_of file ∷ []) fs s → LimitTold (context_of file (events fs)) (due s) (seen_all [] fs)
LimitTold-taken Object fs s taken = record {
  same_limit = λ limit is. now-limit Object (context_of Object (events fs)).position s limit (now-taken Object initial_context fs (object_start ∷ []) s (tt, refl) taken) is;
  same_seen = context_after-seen Object initial_context fs;
}
LimitTold-taken Load fs s taken = record {
  same_limit = λ limit is. now-limit Load (context_of Load (events fs)).position s limit (now-taken Load initial_context fs (load_start ∷ []) s (tt, refl, refl, refl) taken) is;
  same_seen = context_after-seen Load initial_context fs;
}

-- ---- a taker's result for a number

-- what the rules for sites say for that result
abbrev pub SiteAnswered : Option ℕ → List ℕ → ℕ → Result (Unit {0}) SiteRefusal → Type 0
SiteAnswered limit seen n (Ok done) = site_judged limit seen n ≡ None
SiteAnswered limit seen n (Err Outside) = site_judged limit seen n ≡ Some (SiteOutside n)
SiteAnswered limit seen n (Err Overlap) = site_judged limit seen n ≡ Some (SiteOverlap n)
SiteAnswered limit seen n (Err OutOfMemory) = Unit {0}

no-site : (seen : List ℕ) (n : ℕ) (answer : Result (Unit {0}) SiteRefusal) → JudgesNone answer → SiteAnswered None seen n answer
no-site seen n (Ok done) judges = refl
no-site seen n (Err Outside) judges = absurd judges
no-site seen n (Err Overlap) judges = absurd judges
no-site seen n (Err OutOfMemory) judges = tt

one-site : (limit : ℕ) (seen : List ℕ) (n : ℕ) (answer : Result (Unit {0}) SiteRefusal) → JudgesSite limit seen n answer → SiteAnswered (Some limit) seen n answer
one-site limit seen n (Ok done) judges = search (rules, tests)
one-site limit seen n (Err Outside) judges = search (rules, tests)
one-site limit seen n (Err Overlap) judges = search (rules, tests)
one-site limit seen n (Err OutOfMemory) judges = tt

told-site : (watch : SiteContext) (k : Kind) (limit n : ℕ) (seen : List ℕ) (answer : Result (Unit {0}) SiteRefusal) → limit_of k ≡ Some limit
    → LimitTold watch k seen → JudgesSite watch.position.limit watch.seen n answer → SiteAnswered (Some limit) seen n answer
told-site watch k limit n seen answer is told judges =
    let same : watch.position.limit ≡ limit = sym (told.same_limit limit is) in
    one-site limit seen n answer (rw same at (rw told.same_seen at judges))

end-site : (watch : SiteContext) (seen : List ℕ) (n : ℕ) (y : BlockType) (answer : Result (Unit {0}) SiteRefusal) → JudgesEvent watch (at_end y) answer → SiteAnswered None seen n answer
end-site watch seen n End answer judges = no-site seen n answer judges
end-site watch seen n y answer judges = no-site seen n answer judges

pub site-answered : (watch : SiteContext) (k : Kind) (n : ℕ) (seen : List ℕ) (answer : Result (Unit {0}) SiteRefusal) → LimitTold watch k seen
    → JudgesEvent watch (event_at k n) answer → SiteAnswered (limit_of k) seen n answer
site-answered watch (offset limit target) n seen answer told judges = told-site watch (offset limit target) limit n seen answer refl told judges
site-answered watch (short_offset h limit target) n seen answer told judges = told-site watch (short_offset h limit target) limit n seen answer refl told judges
site-answered watch (ref_offset limit) n seen answer told judges = told-site watch (ref_offset limit) limit n seen answer refl told judges
site-answered watch (ext_entry limit) zero seen answer told judges = no-site seen _ answer judges
site-answered watch (ext_entry limit) (suc n) seen answer told judges = no-site seen _ answer judges
site-answered watch symbol_entry zero seen answer told judges = no-site seen _ answer judges
site-answered watch symbol_entry (suc n) seen answer told judges = no-site seen _ answer judges
site-answered watch (block_type w limit) n seen answer told judges = end-site watch seen n (type_of (low n)) answer judges
site-answered watch k n seen answer told judges = no-site seen n answer judges

-- ---- the whole result

-- a number that the table rejects
pub number-refused : (kind : FileKind) (Stands : List Event → Type 0) (s : State) (fs : List Field) (at : Progress) (n : ℕ) (reason : Reason)
    → Reached kind Stands s fs at → judged (due (view s (sizes_told kind (events fs)))) n ≡ Some reason → field_judged at n ≡ Some reason
number-refused kind Stands s fs at n reason reached refused =
    ap (λ j. and_then j (site_judged (limit_of (due at.stack)) at.seen n)) (ap (λ t. judged (due t) n) (sym reached.stack) ∙ refused)

-- how the rules for sites judge it, by the taker's result
pub number-answered : (kind : FileKind) (Stands : List Event → Type 0) (s : State) (fs : List Field) (at : Progress) (n : ℕ) (step : Step) (answer : Result (Unit {0}) SiteRefusal)
    → Reached kind Stands s fs at → Steps s (sizes_told kind (events fs)) n step → JudgesEvent (context_of kind (events fs)) step.event answer
    → SiteAnswered (limit_of (due at.stack)) at.seen n answer
number-answered kind Stands s fs at n step answer reached steps judges =
    let told : LimitTold (context_of kind (events fs)) (due at.stack) (seen_all [] fs) = LimitTold-taken kind fs at.stack reached.taken in
    let event : step.event ≡ event_at (due at.stack) n = steps.tells ∙ ap (λ t. event_at (due t) n) reached.stack in
    subst (λ seen. SiteAnswered (limit_of (due at.stack)) seen n answer) (sym reached.seen)
    (site-answered _ (due at.stack) n (seen_all [] fs) answer told (subst (λ e. JudgesEvent (context_of kind (events fs)) e answer) event judges))

-- a number that is taken, with the taker's result
pub number-taken : (kind : FileKind) (Before Behind : List Event → Type 0) (s : State) (fs : List Field) (at : Progress) (n : ℕ) (step : Step)
    → Reached kind Before s fs at → MayCome fs at n → Steps s (sizes_told kind (events fs)) n step
    → site_judged (limit_of (due at.stack)) at.seen n ≡ None → Behind (events fs ++ with_event step.event [])
    → NumberAnswered kind Behind fs at n (Ok step.state)
number-taken kind Before Behind s fs at n step reached may steps sited behind =
    let f : Field = field (due at.stack) n in
    let judged_none : judged (due at.stack) n ≡ None = subst (λ t. judged (due t) n ≡ None) reached.stack steps.passes in
    let event : step.event ≡ event_of f = steps.tells ∙ ap (λ t. event_at (due t) n) reached.stack in
    let told : events (fs ++ f ∷ []) ≡ events fs ++ with_event step.event [] = events-append fs (f ∷ []) ∙ ap (λ o. events fs ++ with_event o []) (sym event) in
    let sizes : sizes_told kind (events (fs ++ f ∷ [])) ≡ sizes_with step.event (sizes_told kind (events fs)) = ap (sizes_told kind) told ∙ sizes_told-append kind (events fs) step.event in (
      ap (λ j. and_then j (site_judged (limit_of (due at.stack)) at.seen n)) judged_none ∙ sited,
      record {
        taken = takes-append fs (start_of kind ∷ []) at.stack n reached.taken (record { fits = may.fits; passes = judged_none });
        seen = ap (seen_after (due at.stack) n) reached.seen ∙ sym (seen_all-append [] fs (f ∷ []));
        file = steps.same_file ∙ reached.file;
        stack = ap (view step.state) sizes ∙ steps.goes ∙ ap (λ t. next t n) reached.stack;
        is_state = subst (IsState step.state) (sym sizes) steps.is_state;
        stands = subst Behind (sym told) behind;
      },
    )

-- a number that passes the table and breaks a rule for sites
pub site-refused : (kind : FileKind) (Stands : List Event → Type 0) (s : State) (fs : List Field) (at : Progress) (n : ℕ) (step : Step) (reason : Reason)
    → Reached kind Stands s fs at → Steps s (sizes_told kind (events fs)) n step → site_judged (limit_of (due at.stack)) at.seen n ≡ Some reason → field_judged at n ≡ Some reason
site-refused kind Stands s fs at n step reason reached steps refused =
    ap (λ j. and_then j (site_judged (limit_of (due at.stack)) at.seen n)) (subst (λ t. judged (due t) n ≡ None) reached.stack steps.passes) ∙ refused
