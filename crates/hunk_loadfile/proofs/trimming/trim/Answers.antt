use Rattle.std.proofs.Common.{◌≡◌, ◌%◌, ◌∙◌, length, get_or, ap, sym, subst, arith}
use Rattle.std.proofs.lemmas.Grind.{common_steps}
use Rattle.hunk_loadfile.specs.LoadHunk.{FileHunk}
use Rattle.hunk_loadfile.specs.Trimming.{trimmed_hunk}
use Rattle.hunk_loadfile.proofs.MappedLemmas.{mapped_to-all, mapped_to-at, mapped_to-more}
use Rattle.hunk_loadfile.proofs.trimming.trim.Goals as goal

pub loop-hunk-preserved : goal.loop-hunk-preserved
loop-hunk-preserved g c =
    mapped_to-more trimmed_hunk c.args.hunks.now c.loop-hunk.hunks c.loop-hunk.hunk-index c.hunk-item.result c.trim_hunk.new.hunk c.loop-hunk-test.true c.loop-hunk.invariant c.trim_hunk.ensures

pub trim_hunk-requires : goal.trim_hunk-requires
trim_hunk-requires g c =
    let i = c.loop-hunk.hunk-index in
    let hunk = c.hunk-item.result in
    let low = c.loop-hunk-test.true in
    let same = ap (λ hunks. get_or hunks i hunk) c.loop-hunk.invariant ∙ mapped_to-at trimmed_hunk c.args.hunks.now i hunk low in
    subst (λ (h : FileHunk). length h.content % 4 ≡ 0) (sym same) (c.requires i hunk low)

pub returns : goal.returns
returns g c = c.loop-hunk.invariant ∙ mapped_to-all trimmed_hunk c.args.hunks.now c.loop-hunk.hunk-index c.loop-hunk-test.false

-- `grind` at once: `search`, which Rattle tries before it, is slow here
pub offset_bounds-hunks-hunk-index : goal.offset_bounds-hunks-hunk-index
offset_bounds-hunks-hunk-index g c = grind (arith, common_steps)
