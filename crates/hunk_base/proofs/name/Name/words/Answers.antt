use Rattle.std.proofs.Common.{rules, ◌≡◌, ◌∙◌, ap, ℕ, ◌*◌, List, drop, arith}
use Rattle.std.proofs.lemmas.List.{take_rest}
use Rattle.byteorder.specs.Endian.{big_number}
use Rattle.hunk_base.specs.Name.{name_words}
use Rattle.hunk_base.proofs.NameLemmas.{name_words-more, name_words-writes}
use Rattle.hunk_base.proofs.name.Name.words.Goals as goal

pub loop-place-preserved : goal.loop-place-preserved
loop-place-preserved g c =
    let at : ℕ = 4 * c.loop-place.place in
    let bytes : List ℕ = c.bytes-bytes.result.now in
    let next : c.longword.result ≡ big_number 4 (drop at bytes) = c.longword.ensures ∙ ap (λ (t : List ℕ). big_number 4 t) (take_rest bytes at) in
    record {
      room = omega arith;
      len = omega arith;
      value = rw c.push_reserved.ensures.items (name_words-more c.loop-place.words.items bytes c.loop-place.place c.longword.result c.loop-place.invariant.value next);
    }

pub returns-clause-fewest : goal.returns-clause-fewest
returns-clause-fewest g c =
    let whole : c.loop-place.words.items ≡ name_words c.args.self.now = search rules in
    rw whole (name_words-writes c.args.self.now c.bytes-bytes.ensures.each)
