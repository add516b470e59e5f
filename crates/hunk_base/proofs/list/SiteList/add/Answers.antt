use Rattle.std.proofs.Common.{◌∙◌, ◌-◌, ◌≡◌, is_ok, if◌then◌else◌, length, refl, ap, arith}
use Rattle.std.specs.BTreeMap.{insert_entry}
use Rattle.std.specs.Ordering.{nat_cmp}
use Rattle.hunk_base.specs.Page.{AreSpaced, IsFreePlace}
use Rattle.hunk_base.specs.Sites.{Meets}
use Rattle.hunk_base.proofs.PageLemmas.{AreSpaced-added, IsFreePlace-added, IsFreePlace-free, IsFreePlace-last, IsFreePlace-pushed, Meets-read}
use Rattle.hunk_base.proofs.list.SiteList.add.Given.{Over}
use Rattle.hunk_base.proofs.list.SiteList.add.Goals as goal
use Rattle.hunk_base.proofs.list.SiteList.add.Goals.{Joined-last, in-Some+else-offset-last-lt-SITE_BYTES, in_default+else-not-is_apart, in_default-via-in-Some+else-last-offset, in_default-via-in_default}

pub returns-then-offset-last-lt-SITE_BYTES-clause-overlap :
    goal.returns-then-offset-last-lt-SITE_BYTES-clause-overlap
returns-then-offset-last-lt-SITE_BYTES-clause-overlap g c =
    let same = c.deref.ensures.value ∙ c.self.view_is in
    let last = rw same at c.in-Some.ensures.item.3 in
    (λ no. Meets-read c.args.offset (length c.args.self.now - 1) c.in-Some.field-0.now c.args.self.now (omega (arith, last.0)) (last.1 c.in-Some.field-0.now) (omega arith, omega arith), λ meets. refl)

pub invariant_of-self : goal.invariant_of-self
invariant_of-self g c =
    let spaced : AreSpaced c.args.self.now = rw (← c.self.view_is) c.self.invariant in
    let same = c.deref.ensures.value ∙ c.self.view_is in
    let last = rw same at c.in-Some.ensures.item.3 in
    let free = IsFreePlace-last c.args.offset c.in-Some.field-0.now c.args.self.now spaced last.1 (omega arith) in
    let items = rw c.self.view_is at c.push-added.ensures.items in
    AreSpaced-added (is_ok c.push-added.result) c.args.offset c.args.target c.args.self.now c.push-added.new.self.items spaced (omega (arith, c.ranges.offset))
    (IsFreePlace-free c.args.offset (length c.args.self.now) c.args.self.now free)
    (IsFreePlace-pushed (is_ok c.push-added.result) c.args.offset c.args.target c.args.self.now c.push-added.new.self.items free items)

pub invariant_of-self-in_default : goal.invariant_of-self-in_default
invariant_of-self-in_default g c =
    let spaced : AreSpaced c.args.self.now = rw (← c.self.view_is) c.self.invariant in
    let kept : c.in_default.self-inside.sites.items ≡ c.args.self.now = elim c.in_default.branch [
      | in_default-via-in-Some+else-last-offset w ↦ ap (λ p. p.sites.items) w.self-inside-is ∙ c.self.view_is
      | in_default-via-in_default w ↦ ap (λ p. p.sites.items) w.self-inside-is ∙ c.self.view_is
    ] in
    let free : IsFreePlace c.args.self.now c.args.offset c.count_below-place.result = rw (← kept, ← c.deref-in_default-2.ensures.value) c.if-not-is_apart.ensures in
    let items = rw kept at c.insert-added.ensures.items in
    AreSpaced-added (is_ok c.insert-added.result) c.args.offset c.args.target c.args.self.now c.insert-added.new.self.items spaced (omega (arith, c.ranges.offset))
    (IsFreePlace-free c.args.offset c.count_below-place.result c.args.self.now free)
    (IsFreePlace-added (is_ok c.insert-added.result) c.args.offset c.count_below-place.result c.args.target c.args.self.now c.insert-added.new.self.items free items)

-- the site that was put in by either arm shares no byte with another one
joined : (g : Over) (c : Joined-last g)
    → (Meets c.args.self.now c.args.offset → ⊥) × (c.match-last.self ≡ (if is_ok c.match-last.added then insert_entry nat_cmp c.args.self.now c.args.offset c.args.target else c.args.self.now))
joined g c =
    let spaced : AreSpaced c.args.self.now = rw (← c.self.view_is) c.self.invariant in
    elim c.match-last.branch [
      | in-Some+else-offset-last-lt-SITE_BYTES w ↦
          let last = rw (c.deref.ensures.value ∙ c.self.view_is) at w.in-Some.ensures.item.3 in
          let free = IsFreePlace-last c.args.offset w.in-Some.field-0.now c.args.self.now spaced last.1 (omega arith) in
          let items = rw c.self.view_is at w.push-added.ensures.items in (
            IsFreePlace-free c.args.offset (length c.args.self.now) c.args.self.now free,
            w.self-is ∙ rw w.added-is (IsFreePlace-pushed (is_ok w.push-added.result) c.args.offset c.args.target c.args.self.now w.push-added.new.self.items free items),
          )
      | in_default+else-not-is_apart w ↦
          let kept : w.in_default.self-inside.sites.items ≡ c.args.self.now = elim w.in_default.branch [
            | in_default-via-in-Some+else-last-offset w' ↦ ap (λ p. p.sites.items) w'.self-inside-is ∙ c.self.view_is
            | in_default-via-in_default w' ↦ ap (λ p. p.sites.items) w'.self-inside-is ∙ c.self.view_is
          ] in
          let free : IsFreePlace c.args.self.now c.args.offset w.count_below-place.result = rw (← kept, ← w.deref-in_default-2.ensures.value) w.if-not-is_apart.ensures in
          let items = rw kept at w.insert-added.ensures.items in (
            IsFreePlace-free c.args.offset w.count_below-place.result c.args.self.now free,
            w.self-is ∙ rw w.added-is (IsFreePlace-added (is_ok w.insert-added.result) c.args.offset w.count_below-place.result c.args.target c.args.self.now w.insert-added.new.self.items free items),
          )
    ]

pub returns-in-Ok-clause-overlap : goal.returns-in-Ok-clause-overlap
returns-in-Ok-clause-overlap g c = (λ told. cc, λ meets. absurd ((joined g (goal.at.returns-in-Ok-clause-overlap g c).Joined-last).0 meets))

pub returns-in-Ok-clause-added : goal.returns-in-Ok-clause-added
returns-in-Ok-clause-added g c = rw c.in-Ok.is at (joined g (goal.at.returns-in-Ok-clause-added g c).Joined-last).1

pub returns-in-Err-clause-overlap : goal.returns-in-Err-clause-overlap
returns-in-Err-clause-overlap g c = (λ told. cc, λ meets. absurd ((joined g (goal.at.returns-in-Err-clause-overlap g c).Joined-last).0 meets))
