use Rattle.std.proofs.Common.{refl, rules}
use Rattle.hunk_base.proofs.SlotsLemmas.{put-table_first}
use Rattle.hunk_base.proofs.slots.Slots.new.Goals as goal

pub invariant_of-result : goal.invariant_of-result
invariant_of-result g c =
    (put-table_first _ c.slot_number-number.result c.args.offset c.args.target c.in_ok-marks.marks.items c.in_ok-targets.targets.items refl c.ranges.offset.fits
    (c.in_ok-marks.ensures.items_if_clones_equal (λ y clone. clone)) (search rules) c.slot_number-number.ensures).1

pub returns : goal.returns
returns g c =
    (put-table_first _ c.slot_number-number.result c.args.offset c.args.target c.in_ok-marks.marks.items c.in_ok-targets.targets.items refl c.ranges.offset.fits
    (c.in_ok-marks.ensures.items_if_clones_equal (λ y clone. clone)) (search rules) c.slot_number-number.ensures).0
