-- The block is its type, the groups of its sites, and zeros.
use Rattle.std.proofs.Common.{◌≡◌, ◌<◌, ◌*◌, ◌==◌, ◌-◌, ◌%◌, ◌∙◌, ℕ, Bool, true, false, inl, inr, sym, ap, subst, eq-eqb, length, arith}
use Rattle.std.proofs.lemmas.Bool.{cases_eq}
use Rattle.hunk_base.specs.Text.{Puts}
use Rattle.hunk_base.proofs.TextLemmas.{Puts-then}
use Rattle.hunk_loadfile.specs.NumberWidth.{bytes_in, width_bytes}
use Rattle.hunk_loadfile.specs.RelocationWriter.{block_end}
use Rattle.hunk_loadfile.specs.WrittenForm.{groups_words}
use Rattle.hunk_loadfile.proofs.LongwordWriterLemmas.{zeros_of}
use Rattle.hunk_loadfile.proofs.NumberWidthLemmas.{length-bytes_in, width_bytes-le}
use Rattle.hunk_loadfile.proofs.RelocationWriterLemmas.{block_bytes-some}
use Rattle.hunk_loadfile.proofs.relocation_writer.write_block.Goals as goal

some-from_test : (n : ℕ) (empty : Bool) → empty ≡ (n == 0) → empty ≡ false → 0 < n
some-from_test n empty is told = elim (cases_eq n 0) [
  | inl none ↦ let wrong : true ≡ false = sym (eq-eqb n 0 none) ∙ sym is ∙ told in absurd (cc)
  | inr some ↦ omega arith
]

pub write_block_end-requires : goal.write_block_end-requires
write_block_end-requires g c = record { few = omega (arith, c.requires.few, c.write_groups-numbers.ensures.few) }

pub returns : goal.returns
returns g c = λ count all.
    let taken = g.W.Sink.taken in
    let failed = g.W.Sink.failed in
    let width = c.args.width in
    let pairs = c.args.pairs.now in
    let words = groups_words count pairs in
    let some : 0 < length pairs = some-from_test _ c.is_empty.result c.is_empty.ensures c.if-is_empty.false in
    let bytes = ap (λ n. width_bytes width * n) (c.write_groups-numbers.ensures.counts count all) ∙ sym (length-bytes_in width words) in
    subst (λ text. Puts taken failed c.args.text.now c.write_block_end.new.text text) (sym (block_bytes-some width count pairs some))
    (Puts-then taken failed (rw c.block_type.ensures at c.write_longwords.ensures)
    (Puts-then taken failed (c.write_groups-numbers.ensures.wrote count all) (subst (λ end. Puts taken failed c.write_groups-numbers.new.text c.write_block_end.new.text (block_end end)) bytes c.write_block_end.ensures)))
