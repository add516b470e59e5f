-- The type, the number of the sites, the target, the offsets and the zeros at the end.
use Rattle.std.proofs.Common.{◌≡◌, ◌+◌, ◌*◌, ◌<◌, ◌∙◌, ℕ, [], ◌∷◌, length, take, ap, sym, subst, arith}
use Rattle.std.proofs.lemmas.List.{length-take-le}
use Rattle.std.proofs.lemmas.List.Elements.{All-take}
use Rattle.hunk_base.specs.Text.{Puts}
use Rattle.hunk_base.proofs.TextLemmas.{Puts-then}
use Rattle.hunk_loadfile.specs.NumberWidth.{bytes_in, width_bytes}
use Rattle.hunk_loadfile.specs.RelocationWriter.{block_end}
use Rattle.hunk_loadfile.proofs.OneTargetWriterLemmas.{block_bytes-only}
use Rattle.hunk_loadfile.proofs.one_target_writer.write_only_group.Goals as goal

pub returns-clause-wrote : goal.returns-clause-wrote
returns-clause-wrote g c = λ hunks below same.
    let taken = g.W.Sink.taken in
    let failed = g.W.Sink.failed in
    let count = c.args.count in
    let target = c.args.target in
    let width = c.args.width in
    let sites = take count c.args.walk.now in
    let many : length sites ≡ count = length-take-le count c.args.walk.now c.requires.enough in
    let some : 0 < length sites = omega (arith, many, c.if-count-eq0.false) in
    let here = All-take (λ (site : ℕ × ℕ). site.1 ≡ target) count c.args.walk.now same in
    let block = block_bytes-only target sites some here width hunks below in
    let head = subst (λ (n : ℕ). Puts taken failed c.write_longwords.new.text c.write_numbers.new.text (bytes_in width (n ∷ target ∷ []))) (sym many) c.write_numbers.ensures in
    let end = subst (λ (n : ℕ). Puts taken failed c.write_next_offsets.new.text c.write_block_end.new.text (block_end (width_bytes width * (2 + n)))) (sym many) c.write_block_end.ensures in
    subst (λ text. Puts taken failed c.args.text.now c.write_block_end.new.text text) (sym block)
    (Puts-then taken failed (rw c.block_type.ensures at c.write_longwords.ensures)
    (Puts-then taken failed (Puts-then taken failed head c.write_next_offsets.ensures.wrote) end))
