-- The offsets of one more chunk.
use Rattle.std.proofs.Common.{◌≡◌, ◌+◌, ◌-◌, ◌≤◌, ◌∙◌, ℕ, drop, length, map, take, ap, sym, subst, arith}
use Rattle.std.proofs.lemmas.List.{drop-drop, length-take-le}
use Rattle.hunk_base.specs.Text.{Puts}
use Rattle.hunk_base.proofs.TextLemmas.{Puts-then}
use Rattle.hunk_loadfile.specs.NumberWidth.{bytes_in}
use Rattle.hunk_loadfile.proofs.OneTargetWriterLemmas.{offsets-more}
use Rattle.hunk_loadfile.proofs.RelocationWriterLemmas.{offset_of}
use Rattle.hunk_loadfile.proofs.one_target_writer.write_next_offsets.Goals.{then-left-lt-CHUNK, else-left-lt-CHUNK}
use Rattle.hunk_loadfile.proofs.one_target_writer.write_next_offsets.Goals as goal

pub chunks-preserved : goal.chunks-preserved
chunks-preserved g c =
    let inv = c.chunks.invariant in
    let taken = g.W.Sink.taken in
    let failed = g.W.Sink.failed in
    let width = c.args.width in
    let sites = c.args.walk.now in
    let left = c.chunks.left in
    let size = c.if-left-lt-CHUNK.size in
    let before : ℕ = c.args.count - left in
    let bounds : (size ≤ 256) × (size ≤ left) = elim c.if-left-lt-CHUNK.branch [
      | then-left-lt-CHUNK w ↦ (omega (arith, w.size-is, w.if-left-lt-CHUNK.true), omega (arith, w.size-is))
      | else-left-lt-CHUNK w ↦ (omega (arith, w.size-is), omega (arith, w.size-is, w.if-left-lt-CHUNK.false))
    ] in
    let many : length (take size c.chunks.room) ≡ size = length-take-le size c.chunks.room (omega (arith, bounds.0, c.if-left-lt-CHUNK.array_long)) in
    let next : c.args.count - (left - size) ≡ before + size = omega (arith, inv.within, bounds.1) in
    let walked : c.take_offsets.new.walk ≡ drop (before + size) sites =
    c.take_offsets.ensures.rest ∙ ap (λ (n : ℕ). drop n c.chunks.walk) many ∙ ap (drop size) inv.rest ∙ drop-drop size before sites in
    let offsets = c.take_offsets.ensures.taken ∙ ap (λ (n : ℕ). map offset_of (take n c.chunks.walk)) many ∙ ap (λ walk. map offset_of (take size walk)) inv.rest in
    let put = subst (λ ns. Puts taken failed c.chunks.text c.write_numbers.new.text (bytes_in width ns)) offsets c.write_numbers.ensures in
    let whole = offsets-more width before size sites ∙ ap (λ (n : ℕ). bytes_in width (map offset_of (take n sites))) (sym next) in
    record {
      within = omega (arith, inv.within);
      rest = walked ∙ ap (λ (n : ℕ). drop n sites) (sym next);
      puts = subst (λ text. Puts taken failed c.args.text.now c.write_numbers.new.text text) whole (Puts-then taken failed inv.puts put);
    }

pub returns-clause-wrote : goal.returns-clause-wrote
returns-clause-wrote g c =
    let all : c.args.count - c.chunks.left ≡ c.args.count = omega (arith, c.chunks-test.false) in
    subst (λ (n : ℕ). Puts g.W.Sink.taken g.W.Sink.failed c.args.text.now c.chunks.text (bytes_in c.args.width (map offset_of (take n c.args.walk.now)))) all c.chunks.invariant.puts
