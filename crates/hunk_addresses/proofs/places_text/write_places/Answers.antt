-- One more hunk.
use Rattle.std.proofs.Common.{◌∙◌, ◌++◌, append-nil, append_assoc, length, sym, ap, arith}
use Rattle.hunk_loadfile.specs.LoadHunk.{FileHunk}
use Rattle.hunk_loader.specs.Sizes.{sizes_of}
use Rattle.hunk_base.proofs.TextLemmas.{◌⨾◌, Puts-as}
use Rattle.hunk_addresses.specs.PlacesText.{hunk_line, numbers_line}
use Rattle.hunk_addresses.proofs.PlacesTextLemmas.{first_lines, first_lines-all, first_lines-more, length-sizes_of}
use Rattle.hunk_addresses.proofs.places_text.write_places.Goals as goal

pub loop-number-init : goal.loop-number-init
loop-number-init g c =
    let bases = c.args.bases.now in
    Puts-as (ap (λ count. numbers_line count (length bases)) (sym (length-sizes_of c.args.hunks.now)) ∙ sym (append-nil (numbers_line (length (sizes_of c.args.hunks.now)) (length bases)))) c.write_numbers.ensures

pub loop-number-preserved : goal.loop-number-preserved
loop-number-preserved g c =
    let hunks = c.args.hunks.now in
    let bases = c.args.bases.now in
    let number = c.loop-number.number in
    let first = numbers_line (length (sizes_of hunks)) (length bases) in
    let hunk = c.index-hunks-number.result in
    let line = Puts-as (ap (λ (h : FileHunk). hunk_line bases (number, h.size)) c.hunk.view_is) c.write_hunk.ensures in
    Puts-as (append_assoc first (first_lines bases number hunks) (hunk_line bases (number, hunk.size)) ∙ ap (λ lines. first ++ lines) (sym (first_lines-more bases hunks number hunk c.loop-number-test.true c.index-hunks-number.is)))
    (c.loop-number.invariant ⨾ line)

pub returns : goal.returns
returns g c =
    let hunks = c.args.hunks.now in
    let bases = c.args.bases.now in
    let first = numbers_line (length (sizes_of hunks)) (length bases) in
    Puts-as (ap (λ lines. first ++ lines) (first_lines-all bases hunks c.loop-number.number (omega (arith, c.loop-number-test.false)))) c.loop-number.invariant
