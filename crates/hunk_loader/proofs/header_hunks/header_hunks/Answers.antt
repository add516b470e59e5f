-- One more longword.
use Rattle.std.proofs.Common.{◌≡◌, ◌+◌, ◌-◌, ◌*◌, [], ◌∷◌, ◌++◌, drop, map, take, sym, ap, ◌∙◌, arith}
use Rattle.byteorder.specs.Endian.{big_number}
use Rattle.hunk_base.specs.Longwords.{longwords}
use Rattle.hunk_base.proofs.LongwordsLemmas.{longwords-front}
use Rattle.hunk_loader.specs.HeaderHunks.{header_hunk}
use Rattle.hunk_loader.proofs.HeaderHunksLemmas.{hunks-next}
use Rattle.hunk_loader.proofs.header_hunks.header_hunks.Goals as goal

pub loop-index-preserved : goal.loop-index-preserved
loop-index-preserved g c =
    let i = c.loop-index.index in
    let bytes = c.args.bytes.now in
    let four : 4 * i + 4 - 4 * i ≡ 4 = omega arith in
    let is : c.read_u32-word.result ≡ big_number 4 (take 4 (drop (4 * i) bytes)) = rw four at c.read_u32-word.ensures in
    let front = map header_hunk (drop 5 (longwords (take (4 * i) bytes))) in
    record {
      room = omega (arith, c.push_reserved.ensures.capacity, c.loop-index.invariant.room);
      len = omega (arith, c.push_reserved.ensures.len, c.loop-index.invariant.len);
      value = c.push_reserved.ensures.items ∙ ap (λ hunks. hunks ++ c.of_longword.result ∷ []) c.loop-index.invariant.value
          ∙ ap (λ hunk. front ++ hunk ∷ []) c.of_longword.ensures
          ∙ sym (hunks-next bytes i c.read_u32-word.result (omega arith) (omega arith) is);
    }

pub returns : goal.returns
returns g c =
    let bytes = c.args.bytes.now in
    c.loop-index.invariant.value ∙ ap (λ ws. map header_hunk (drop 5 ws)) (longwords-front bytes c.loop-index.index (omega arith) (omega arith))
