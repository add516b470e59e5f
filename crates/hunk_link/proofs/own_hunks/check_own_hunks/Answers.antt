use Rattle.std.proofs.Common.{refl}
use Rattle.std.proofs.lemmas.List.{at_drop_all}
use Rattle.std.proofs.lemmas.List.Elements.{All-nil}
use Rattle.hunk_objects.specs.declared.unit_hunk.Adds.TheVariants.{Hunk}
use Rattle.hunk_link.specs.OwnHunks.{AllNameOwnHunks, NamesOwnHunk, sites_in, sites_of}
use Rattle.hunk_link.specs.Ranks.{items_of}
use Rattle.hunk_link.proofs.FirstToBreakLemmas.{first-chunk, obeyed_before-chunk, obeyed_before-end, obeyed_before-start}
use Rattle.hunk_link.proofs.ItemsLemmas.{IsAt-same, all_items-next}
use Rattle.hunk_link.proofs.own_hunks.check_own_hunks.Goals as goal

pub loop-ranked-init : goal.loop-ranked-init
loop-ranked-init g c = obeyed_before-start AllNameOwnHunks _ _ refl (All-nil NamesOwnHunk)

pub returns-in-Some-clause-foreign : goal.returns-in-Some-clause-foreign
returns-in-Some-clause-foreign g c =
    let ranked = c.ranked-item.result in
    let next = all_items-next sites_in _ _ ranked c.loop-ranked-test.true c.ranked-item.is in
    let found = c.in-Some.ensures in
    record {
      ranked = ranked;
      offset = found.0;
      at = IsAt-same _ _ c.ranked.view_is;
      first = first-chunk NamesOwnHunk c.loop-ranked.invariant _ (items_of sites_in ranked) next (ranked, (found.0, Hunk c.in-Some.target)) found.1;
    }

pub loop-ranked-preserved : goal.loop-ranked-preserved
loop-ranked-preserved g c =
    let ranked = c.ranked-item.result in
    let next = all_items-next sites_in _ _ ranked c.loop-ranked-test.true c.ranked-item.is in
    obeyed_before-chunk NamesOwnHunk c.loop-ranked.invariant _ (items_of sites_in ranked) next c.in_default.ensures

pub returns-clause-own : goal.returns-clause-own
returns-clause-own g c =
    obeyed_before-end AllNameOwnHunks _ _ (at_drop_all sites_of c.args.hunks.now c.loop-ranked.ranked-index c.loop-ranked-test.false) c.loop-ranked.invariant
