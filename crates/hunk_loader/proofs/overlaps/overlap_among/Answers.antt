use Rattle.std.proofs.Common.{◌+◌, length, arith}
use Rattle.hunk_loader.proofs.OverlapsLemmas.{ApartFromEarlier-more, apart-in_order, in_order-apart}
use Rattle.hunk_loader.proofs.overlaps.overlap_among.Goals as goal

pub returns-then-are_in_order_below : goal.returns-then-are_in_order_below
returns-then-are_in_order_below g c =
    in_order-apart (g.S.Sizes.sizes c.args.sizes.now) c.args.bases.now c.args.extents.now (length c.args.bases.now) c.requires.rising.all (c.are_in_order_below.ensures.0 c.if-are_in_order_below.true) (omega arith)

pub returns-in_err-earlier : goal.returns-in_err-earlier
returns-in_err-earlier g c =
    let sizes = g.S.Sizes.sizes c.args.sizes.now in
    let bases = c.args.bases.now in
    let later = c.first_out_of_order-later.result in
    let found = c.first_out_of_order-later.ensures in
    let before = in_order-apart sizes bases c.args.extents.now later c.requires.rising.all found.before (omega (arith, found.is_hunk)) in
    absurd (found.with (apart-in_order sizes bases c.args.extents.now (later + 1) c.requires.rising (ApartFromEarlier-more sizes bases later before c.in_err-earlier.ensures)))

pub returns : goal.returns
returns g c =
    let sizes = g.S.Sizes.sizes c.args.sizes.now in
    let bases = c.args.bases.now in
    let later = c.first_out_of_order-later.result in
    let found = c.first_out_of_order-later.ensures in
    record {
      is_hunk = found.is_hunk;
      least_earlier = c.in_ok-earlier.ensures;
      lower_apart = in_order-apart sizes bases c.args.extents.now later c.requires.rising.all found.before (omega (arith, found.is_hunk));
    }
