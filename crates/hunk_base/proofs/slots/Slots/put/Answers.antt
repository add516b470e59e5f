use Rattle.std.proofs.Common.{◌/◌, refl, ap, ◌∙◌}
use Rattle.std.specs.BTreeMap.{insert_entry}
use Rattle.std.specs.Ordering.{nat_cmp}
use Rattle.hunk_base.proofs.SlotsLemmas.{put-table_marked}
use Rattle.hunk_base.proofs.slots.Slots.put.Goals as goal

pub invariant_of-self : goal.invariant_of-self
invariant_of-self g c =
    (put-table_marked c.self.inside.first (c.args.offset / 4096) c.slot_number-number.result c.args.offset c.args.target c.self.inside.marks.items c.self.inside.targets.items c.self.invariant
    (rw c.self.view_is c.requires.in_page) refl c.ranges.offset.fits (rw c.self.view_is c.requires.free) c.slot_number-number.ensures).1

pub returns : goal.returns
returns g c =
    (put-table_marked c.self.inside.first (c.args.offset / 4096) c.slot_number-number.result c.args.offset c.args.target c.self.inside.marks.items c.self.inside.targets.items c.self.invariant
    (rw c.self.view_is c.requires.in_page) refl c.ranges.offset.fits (rw c.self.view_is c.requires.free) c.slot_number-number.ensures).0
    ∙ ap (λ sites. insert_entry nat_cmp sites c.args.offset c.args.target) c.self.view_is
