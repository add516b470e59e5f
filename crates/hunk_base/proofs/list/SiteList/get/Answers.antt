use Rattle.std.proofs.Common.{◌∙◌, arith}
use Rattle.hunk_base.specs.Page.{AreSpaced}
use Rattle.hunk_base.proofs.PageLemmas.{target_at-read, target_at-unread}
use Rattle.hunk_base.proofs.list.SiteList.get.Goals as goal
use Rattle.hunk_base.proofs.list.SiteList.get.Goals.{in_default-via-in-Some+else-start-offset, in_default-via-in_default}

pub returns-in-Some : goal.returns-in-Some
returns-in-Some g c =
    let spaced : AreSpaced c.args.self.now = rw (← c.self.view_is) c.self.invariant in
    let same = c.deref.ensures.value ∙ c.self.view_is in
    let found = rw same at c.in-Some.ensures.lookup.3 in
    target_at-read c.args.offset c.count_before.result c.in-Some.field-0.now c.args.self.now spaced found.0 (found.1 c.in-Some.field-0.now) c.if-start-offset.true

pub returns-in_default : goal.returns-in_default
returns-in_default g c =
    let spaced : AreSpaced c.args.self.now = rw (← c.self.view_is) c.self.invariant in
    let same = c.deref.ensures.value ∙ c.self.view_is in
    elim c.in_default.branch [
      | in_default-via-in-Some+else-start-offset w ↦
          let found = rw same at w.in-Some.ensures.lookup.3 in
          target_at-unread c.args.offset c.count_before.result c.args.self.now spaced c.count_before.ensures.within c.count_before.ensures.parts
          (λ d inside here. w.if-start-offset.false (rw (found.1 d) here))
      | in_default-via-in_default w ↦
          let past = rw same at w.in_default.ensures.lookup.3 in
          target_at-unread c.args.offset c.count_before.result c.args.self.now spaced c.count_before.ensures.within c.count_before.ensures.parts
          (λ d inside here. omega arith)
    ]
