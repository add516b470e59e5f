use Rattle.std.proofs.Common.{◌≡◌, ◌*◌, [], length, sym, ap, subst, ◌∙◌, arith}
use Rattle.std.proofs.lemmas.List.{nil_from_length}
use Rattle.std.specs.List.{All}
use Rattle.hunk_base.specs.Pages.{all_sites}
use Rattle.hunk_loadfile.proofs.PatchingLemmas.{StandFrom-wider}
use Rattle.hunk_link.specs.Addend.{addend_of}
use Rattle.hunk_link.specs.Carried.{IsKnown}
use Rattle.hunk_link.proofs.CarryLemmas.{All-page, Carrying, carrying-all, carrying-page, carried-content, carried-sites, page-behind}
use Rattle.hunk_link.proofs.carried.moved_sites.Goals as goal

pub loop-page-init : goal.loop-page-init
loop-page-init g c =
    let bytes = c.args.content.now in
    let sites = c.args.sites in
    let addend = addend_of c.args.first c.args.references.now in
    let all : all_sites c.into_iter-page-iterator.result.rest.items ≡ sites.entries = ap all_sites c.into_iter-page-iterator.ensures.into_iter_gives.0 ∙ c.into_pages-page-items.ensures.all in
    let apart = StandFrom-wider 0 0 sites.limit (length bytes) sites.entries (omega arith) c.requires.inside c.into_pages-page-items.ensures.apart in
    record {
      can_next = tt;
      is_finite = tt;
      known = subst (All (λ site. IsKnown c.args.first (length c.args.references.now) site.1)) (sym all) c.requires.known;
      carrying = subst (λ left. Carrying addend bytes sites.entries [] (4 * c.args.size) bytes left c.new-left.result) (sym all)
          (carrying-all addend bytes sites.entries [] (4 * c.args.size) 0 c.new-left.result tt apart (cc));
    }

pub carry-requires-clause-behind : goal.carry-requires-clause-behind
carry-requires-clause-behind g c =
    page-behind _ _ _ _ _ _ _ _ _ c.in-Some.ensures.steps.0 c.walk.ensures _ _ c.loop-page.invariant.carrying

pub carry-requires-clause-known : goal.carry-requires-clause-known
carry-requires-clause-known g c =
    (All-page (λ site. IsKnown c.args.first (length c.args.references.now) site.1) _ _ _ _ c.in-Some.ensures.steps.0 c.walk.ensures c.loop-page.invariant.known).0

pub loop-page-preserved-in_ok-carry : goal.loop-page-preserved-in_ok-carry
loop-page-preserved-in_ok-carry g c = record {
  can_next = tt;
  is_finite = tt;
  known = (All-page (λ site. IsKnown c.args.first (length c.args.references.now) site.1) _ _ _ _ c.in-Some.ensures.steps.0 c.walk.ensures c.loop-page.invariant.known).1;
  carrying = carrying-page _ _ _ _ _ _ _ _ _ c.in-Some.ensures.steps.0 c.walk.ensures _ _ c.loop-page.invariant.carrying _ _ c.in_ok-carry.ensures.content c.in_ok-carry.ensures.left;
}

pub loop-page-preserved : goal.loop-page-preserved
loop-page-preserved g c = record {
  can_next = tt;
  is_finite = tt;
  known = (All-page (λ site. IsKnown c.args.first (length c.args.references.now) site.1) _ _ _ _ c.in-Some.ensures.steps.0 c.walk.ensures c.loop-page.invariant.known).1;
  carrying = carrying-page _ _ _ _ _ _ _ _ _ c.in-Some.ensures.steps.0 c.walk.ensures _ _ c.loop-page.invariant.carrying _ _ c.in_ok-carry.ensures.content c.in_ok-carry.ensures.left;
}

pub returns-clause-content : goal.returns-clause-content
returns-clause-content g c =
    let left = c.loop-page.page-iterator.rest in
    let none : left.items ≡ [] = nil_from_length left.items (omega (arith, left.ok.0, c.in-None.ensures.steps.0)) in
    carried-content _ _ _ _ _ _ _ _ c.loop-page.invariant.carrying (ap all_sites none)

pub returns-clause-sites : goal.returns-clause-sites
returns-clause-sites g c =
    let left = c.loop-page.page-iterator.rest in
    let none : left.items ≡ [] = nil_from_length left.items (omega (arith, left.ok.0, c.in-None.ensures.steps.0)) in
    carried-sites _ _ _ _ _ _ _ _ c.loop-page.invariant.carrying (ap all_sites none)
