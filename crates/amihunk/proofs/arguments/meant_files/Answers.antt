use Rattle.std.proofs.Common.{◌≡◌, ◌<◌, ◌≤◌, ◌+◌, ◌∙◌, arith, drop, length, set, subst, suc, sym}
use Rattle.std.proofs.lemmas.List.{length-map, take_at}
use Rattle.clap.specs.Walk.{texts}
use Rattle.amihunk.specs.Arguments.{AreMeantBy}
use Rattle.amihunk.proofs.ArgumentsLemmas.{MeantTo, meant-all, meant-more}
use Rattle.amihunk.proofs.arguments.meant_files.Goals as goal

pub loop-word-preserved : goal.loop-word-preserved
loop-word-preserved c =
    let words = c.args.words.items in
    let i = c.loop-word.word-index in
    let low : i < length (texts words) = rw length-map (omega (arith, c.loop-word-test.true)) in
    let next : suc i ≡ i + 1 = omega arith in
    subst (λ count. MeantTo c.args.arguments.now count (texts words) (texts (set c.loop-word.word-items i c.meant_file.result))) next
    (meant-more c.args.arguments.now (texts words) c.loop-word.word-items i _ c.meant_file.result low c.loop-word.invariant c.meant_file.ensures)

pub returns : goal.returns
returns c =
    let words = c.args.words.items in
    let all : length (texts words) ≤ c.loop-word.word-index = rw length-map (omega (arith, c.loop-word-test.false)) in
    let whole = take_at c.loop-word.word-items (drop (length c.loop-word.word-items) words) c.args.words.len (c.loop-word.auto.word-items ∙ c.deref_mut-word-items.ensures.len) in
    subst (λ fs. AreMeantBy c.args.arguments.now (texts words) (texts fs)) (sym whole)
    (meant-all c.args.arguments.now (texts words) (texts c.loop-word.word-items) c.loop-word.word-index all c.loop-word.invariant)
