-- The two bytes of a number are those of its lowest 16 bits.
use Rattle.std.proofs.Common.{◌∙◌, ap, sym}
use Rattle.std.specs.List.{flat_map}
use Rattle.byteorder.specs.Endian.{big_bytes}
use Rattle.hunk_loadfile.specs.NumberWidth.{bytes_in}
use Rattle.hunk_loadfile.proofs.NumberWidthLemmas.{words-low}
use Rattle.hunk_loadfile.proofs.longword_writer.fill_bytes.Goals as goal

pub returns-in-Word : goal.returns-in-Word
returns-in-Word c =
    let numbers = c.args.numbers.now in
    c.write_u16_into.ensures ∙ ap (flat_map (λ n. big_bytes 2 n)) c.fill_words.ensures ∙ words-low numbers ∙ ap (λ width. bytes_in width numbers) (sym c.in-Word.is)
