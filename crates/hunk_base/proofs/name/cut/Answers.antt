use Rattle.std.proofs.Common.{◌∙◌, arith}
use Rattle.hunk_base.proofs.NameLemmas.{name_of-stops, name_of-goes_on}
use Rattle.hunk_base.proofs.name.cut.Goals as goal

pub returns-then-front-lt4 : goal.returns-then-front-lt4
returns-then-front-lt4 g c =
    c.in_ok-extend.ensures.extends
    ∙ name_of-stops c.args.words.now c.loop-word.bytes c.big_endian-longword.result c.until_zero-front.result.now c.loop-word.word-index (omega arith) c.big_endian-longword.ensures c.until_zero-front.ensures c.loop-word.invariant c.if-front-lt4.true

pub loop-word-preserved : goal.loop-word-preserved
loop-word-preserved g c =
    rw c.in_ok-extend.ensures.extends
    (name_of-goes_on c.args.words.now c.loop-word.bytes c.big_endian-longword.result c.until_zero-front.result.now c.loop-word.word-index (omega arith) c.big_endian-longword.ensures c.until_zero-front.ensures c.loop-word.invariant c.if-front-lt4.false)
