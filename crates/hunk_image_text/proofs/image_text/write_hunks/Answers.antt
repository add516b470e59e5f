-- One more hunk.
use Rattle.std.proofs.Common.{sym, arith}
use Rattle.hunk_base.proofs.TextLemmas.{◌⨾◌, Puts-as}
use Rattle.hunk_loader.specs.Image.{hunks_of}
use Rattle.hunk_image_text.proofs.ImageTextLemmas.{IsHunk-hunks_of, ends_inside, first_hunk_lines-all, first_hunk_lines-more, length-hunks_of}
use Rattle.hunk_image_text.proofs.image_text.write_hunks.Goals as goal

pub write_hunk-requires : goal.write_hunk-requires
write_hunk-requires g c =
    let here = IsHunk-hunks_of c.args.hunks.now c.loop-number.number c.index-hunks-number.result c.deref.result.now c.loop-number-test.true c.index-hunks-number.is c.deref.ensures.value in
    ends_inside _ _ _ _ here c.requires

pub loop-number-preserved : goal.loop-number-preserved
loop-number-preserved g c =
    let hunks = hunks_of c.args.hunks.now in
    let number = c.loop-number.number in
    let bytes = c.deref.result.now in
    let here = IsHunk-hunks_of c.args.hunks.now number c.index-hunks-number.result bytes c.loop-number-test.true c.index-hunks-number.is c.deref.ensures.value in
    Puts-as (sym (first_hunk_lines-more c.args.form hunks number c.index-hunks-number.result.0 bytes here)) (c.loop-number.invariant ⨾ c.write_hunk.ensures)

pub returns : goal.returns
returns g c = Puts-as (first_hunk_lines-all c.args.form (hunks_of c.args.hunks.now) c.loop-number.number (omega (arith, length-hunks_of c.args.hunks.now))) c.loop-number.invariant
