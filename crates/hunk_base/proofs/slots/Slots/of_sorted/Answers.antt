use Rattle.std.proofs.Common.{◌∙◌, ◌+◌, ap}
use Rattle.std.specs.BTreeMap.{insert_entry}
use Rattle.std.specs.Ordering.{nat_cmp}
use Rattle.hunk_base.proofs.PageLemmas.{insert_entry-next}
use Rattle.hunk_base.proofs.SlotsLemmas.{read-after_first}
use Rattle.hunk_base.proofs.slots.Slots.of_sorted.Goals as goal

pub put-requires-clause-in_page : goal.put-requires-clause-in_page
put-requires-clause-in_page g c =
    let read = read-after_first c.loop-offset.offset-index c.loop-offset-item.result c.args.sites.now c.loop-offset-test.true c.loop-offset-item.is in
    rw c.loop-offset.invariant
    (insert_entry-next c.requires.in_page.0 (c.loop-offset.offset-index + 1) c.loop-offset-item.result c.args.sites.now c.requires.spaced c.requires.in_page.1 read.0 read.1).0

pub put-requires-clause-free : goal.put-requires-clause-free
put-requires-clause-free g c =
    let read = read-after_first c.loop-offset.offset-index c.loop-offset-item.result c.args.sites.now c.loop-offset-test.true c.loop-offset-item.is in
    rw c.loop-offset.invariant
    (insert_entry-next c.requires.in_page.0 (c.loop-offset.offset-index + 1) c.loop-offset-item.result c.args.sites.now c.requires.spaced c.requires.in_page.1 read.0 read.1).1

pub loop-offset-preserved : goal.loop-offset-preserved
loop-offset-preserved g c =
    let read = read-after_first c.loop-offset.offset-index c.loop-offset-item.result c.args.sites.now c.loop-offset-test.true c.loop-offset-item.is in
    c.put.ensures
    ∙ ap (λ sites. insert_entry nat_cmp sites c.loop-offset-item.result.0 c.loop-offset-item.result.1) c.loop-offset.invariant
    ∙ (insert_entry-next c.requires.in_page.0 (c.loop-offset.offset-index + 1) c.loop-offset-item.result c.args.sites.now c.requires.spaced c.requires.in_page.1 read.0 read.1).2
