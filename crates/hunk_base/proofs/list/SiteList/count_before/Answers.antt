use Rattle.std.proofs.Common.{◌∙◌, arith}
use Rattle.hunk_base.specs.Page.{AreSpaced}
use Rattle.hunk_base.proofs.PageLemmas.{parts-last}
use Rattle.hunk_base.proofs.list.SiteList.count_before.Goals as goal

pub returns-in-Some-clause-parts : goal.returns-in-Some-clause-parts
returns-in-Some-clause-parts g c =
    let spaced : AreSpaced c.args.self.now = rw (← c.self.view_is) c.self.invariant in
    let same = c.deref.ensures.value ∙ c.self.view_is in
    let last = rw same at c.in-Some.ensures.item.3.1 in
    let all = rw same at c.deref.ensures.len in
    parts-last c.args.offset c.len.result c.in-Some.field-0.now c.args.self.now spaced (omega arith) last c.if-last-offset.true
