-- The text of the image, which was put.
use Rattle.std.proofs.Common.{◌<◌, ◌^◌, [], length, rules, arith}
use Rattle.hunk_loader.specs.Image.{hunks_of}
use Rattle.hunk_image_text.proofs.ImageTextLemmas.{length-hunks_of, length-image_text-lt}
use Rattle.hunk_image_text.proofs.image_text.write_image.Goals as goal

pub returns-clause-wrote : goal.returns-clause-wrote
returns-clause-wrote g c =
    let hunks = hunks_of c.args.hunks.now in
    let few : length hunks < 2 ^ 16 = omega (arith, length-hunks_of c.args.hunks.now, c.requires.few) in
    let wrote = c.finish.ensures.counted c.args.writer.now _ (omega (arith, length-image_text-lt c.args.form hunks few c.requires.inside)) (c.put_image.ensures.adds _ [] c.new-text.ensures.empty) in
    search (rules, wrote)
