use Rattle.std.proofs.Common.{◌≡◌, ℕ, false, length, Result, Ok, Err, OnOk, refl, sym, subst, ◌∙◌}
use Rattle.std.proofs.lemmas.List.Elements.{All-head}
use Rattle.std.specs.List.{All}
use Rattle.std.specs.Result.{is_err}
use Rattle.hunk_objects.specs.declared.unit_hunk.Adds.{Adds}
use Rattle.hunk_loadfile.proofs.PatchingLemmas.{All-behind}
use Rattle.hunk_link.specs.Addend.{addend_of}
use Rattle.hunk_link.specs.Carried.{IsKnown}
use Rattle.hunk_link.proofs.CarryLemmas.{Carrying, carrying-all, carrying-known, carrying-left, carried-content, carried-sites, site-inside}
use Rattle.hunk_link.proofs.carried.carry.Goals as goal

pub loop-offset-init : goal.loop-offset-init
loop-offset-init g c =
    let bytes = c.args.content.now in
    let sites = c.args.sites in
    let left = c.args.left.now in
    let addend = addend_of c.args.first c.args.references.now in
    let all : c.into_iter-offset-iterator.result ≡ sites = c.into_iter-offset-iterator.ensures.into_iter_gives in
    record {
      can_next = tt;
      is_finite = tt;
      known = subst (All (λ site. IsKnown c.args.first (length c.args.references.now) site.1)) (sym all) c.requires.known;
      carrying = subst (λ rest. Carrying addend bytes sites left.entries left.limit bytes rest left) (sym all)
          (carrying-all addend bytes sites left.entries left.limit c.requires.behind.0 left c.requires.behind.1 c.requires.behind.2 refl);
    }

pub addend_of-addend-requires : goal.addend_of-addend-requires
addend_of-addend-requires g c =
    let known : ℕ × Adds → Type 0 = λ site. IsKnown c.args.first (length c.args.references.now) site.1 in
    All-head known (c.in-Some.offset, c.in-Some.adds.now) c.next.new.self (subst (All known) c.in-Some.ensures.steps c.loop-offset.invariant.known)

pub add_at-requires : goal.add_at-requires
add_at-requires g c =
    site-inside (addend_of c.args.first c.args.references.now) c.args.content.now c.args.sites c.args.left.now.entries c.args.left.now.limit c.loop-offset.content c.loop-offset.offset-iterator c.loop-offset.left c.loop-offset.invariant.carrying
    c.next.new.self (c.in-Some.offset, c.in-Some.adds.now) c.in-Some.ensures.steps

on_ok : {T E P : Type 0} (r : Result T E) → is_err r ≡ false → OnOk r P → P
on_ok (Ok x) fine p = p
on_ok (Err e) fine p = absurd (cc)

pub loop-offset-preserved-else-is_err : goal.loop-offset-preserved-else-is_err
loop-offset-preserved-else-is_err g c =
    let left = c.loop-offset.offset-iterator in
    let site : ℕ × Adds = (c.in-Some.offset, c.in-Some.adds.now) in
    let added = on_ok c.try_add.result (sym c.is_err.ensures.value ∙ c.if-is_err.false) c.try_add.ensures.adds in
    record {
      can_next = tt;
      is_finite = tt;
      known = All-behind (λ s. IsKnown c.args.first (length c.args.references.now) s.1) left c.next.new.self site c.in-Some.ensures.steps c.loop-offset.invariant.known;
      carrying = carrying-left (addend_of c.args.first c.args.references.now) c.args.content.now c.args.sites c.args.left.now.entries c.args.left.now.limit c.loop-offset.content left c.loop-offset.left c.loop-offset.invariant.carrying
          c.next.new.self site c.in-Some.ensures.steps c.addend_of-addend.result c.addend_of-addend.ensures c.add_at.new.bytes c.add_at.ensures c.in-Some-base.rank c.try_add.new.self c.in-Some-base.is added;
    }

pub loop-offset-preserved : goal.loop-offset-preserved
loop-offset-preserved g c =
    let left = c.loop-offset.offset-iterator in
    let site : ℕ × Adds = (c.in-Some.offset, c.in-Some.adds.now) in
    record {
      can_next = tt;
      is_finite = tt;
      known = All-behind (λ s. IsKnown c.args.first (length c.args.references.now) s.1) left c.next.new.self site c.in-Some.ensures.steps c.loop-offset.invariant.known;
      carrying = carrying-known (addend_of c.args.first c.args.references.now) c.args.content.now c.args.sites c.args.left.now.entries c.args.left.now.limit c.loop-offset.content left c.loop-offset.left c.loop-offset.invariant.carrying
          c.next.new.self site c.in-Some.ensures.steps c.addend_of-addend.result c.addend_of-addend.ensures c.add_at.new.bytes c.add_at.ensures c.in_default.is;
    }

pub returns-clause-content : goal.returns-clause-content
returns-clause-content g c = carried-content _ _ _ _ _ _ _ _ c.loop-offset.invariant.carrying c.in-None.ensures.steps.0

pub returns-clause-left : goal.returns-clause-left
returns-clause-left g c = carried-sites _ _ _ _ _ _ _ _ c.loop-offset.invariant.carrying c.in-None.ensures.steps.0
