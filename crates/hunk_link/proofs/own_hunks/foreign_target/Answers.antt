use Rattle.std.proofs.Common.{◌≡◌, ℕ, List, ◌∷◌, ap, sym, subst, arith}
use Rattle.std.proofs.lemmas.List.Elements.{All-nil}
use Rattle.hunk_objects.specs.declared.unit_hunk.Adds.{Adds}
use Rattle.hunk_objects.specs.declared.unit_hunk.Adds.TheVariants.{Hunk, Reference}
use Rattle.hunk_link.specs.FirstToBreak.{IsFirstToBreak}
use Rattle.hunk_link.specs.OwnHunks.{AllNameOwnHunks, IsOneOf, NamesOwnHunk, sites_in}
use Rattle.hunk_link.specs.Ranks.{RankedHunk, items_of}
use Rattle.hunk_link.proofs.FirstToBreakLemmas.{IsObeyedBefore, first-item, obeyed_before-end, obeyed_before-item, obeyed_before-start}
use Rattle.hunk_link.proofs.own_hunks.foreign_target.Goals as goal

IsOneOf-reference : (count : ℕ) (adds : Adds) → ((target : ℕ) → adds ≡ Hunk target → ⊥) → IsOneOf count adds
IsOneOf-reference count (Hunk target) other = absurd (other target (λ _. Hunk target))
IsOneOf-reference count (Reference index) other = tt

-- the next site
module _ (ranked : RankedHunk) (left rest : List (ℕ × Adds)) (offset : ℕ) (adds : Adds) (next : left ≡ (offset, adds) ∷ rest)
    (so_far : IsObeyedBefore AllNameOwnHunks (items_of (λ _. left) ranked) (items_of sites_in ranked)) where
  own-more : IsOneOf ranked.count adds → IsObeyedBefore AllNameOwnHunks (items_of (λ _. rest) ranked) (items_of sites_in ranked)
  own-more own = obeyed_before-item NamesOwnHunk so_far (items_of (λ _. rest) ranked) (ranked, (offset, adds)) (ap (λ sites. items_of (λ _. sites) ranked) next) own

  foreign-next : (IsOneOf ranked.count adds → ⊥) → IsFirstToBreak AllNameOwnHunks (items_of sites_in ranked) (ranked, (offset, adds))
  foreign-next foreign = first-item NamesOwnHunk so_far (items_of (λ _. rest) ranked) (ranked, (offset, adds)) (ap (λ sites. items_of (λ _. sites) ranked) next) foreign

pub loop-adds-init : goal.loop-adds-init
loop-adds-init g c =
    let ranked = c.args.ranked.now in
    let all : c.into_iter-adds-iterator.result ≡ ranked.hunk.sites.entries = cc in
    record {
      can_next = tt;
      is_finite = tt;
      own = obeyed_before-start AllNameOwnHunks _ _ (ap (λ sites. items_of (λ _. sites) ranked) all) (All-nil NamesOwnHunk);
    }

pub returns-then-target-ranked : goal.returns-then-target-ranked
returns-then-target-ranked g c =
    let ranked = c.args.ranked.now in
    let count : c.ranked.inside.count ≡ ranked.count = ap (λ (r : RankedHunk). r.count) c.ranked.view_is in
    let foreign : IsOneOf ranked.count (Hunk c.in-Hunk.target) → ⊥ = λ own. omega (arith, own) in (
      c.in-Some.field-0-0,
      subst (λ adds. IsFirstToBreak AllNameOwnHunks (items_of sites_in ranked) (ranked, (c.in-Some.field-0-0, adds))) c.in-Hunk.is
          (foreign-next ranked _ _ c.in-Some.field-0-0 c.in-Some.adds.now c.in-Some.ensures.steps c.loop-adds.invariant.own (subst (λ adds. IsOneOf ranked.count adds → ⊥) (sym c.in-Hunk.is) foreign)),
    )

pub loop-adds-preserved-else-target-ranked : goal.loop-adds-preserved-else-target-ranked
loop-adds-preserved-else-target-ranked g c =
    let ranked = c.args.ranked.now in
    let count : c.ranked.inside.count ≡ ranked.count = ap (λ (r : RankedHunk). r.count) c.ranked.view_is in
    record {
      can_next = tt;
      is_finite = tt;
      own = own-more ranked _ _ c.in-Some.field-0-0 c.in-Some.adds.now c.in-Some.ensures.steps c.loop-adds.invariant.own (subst (IsOneOf ranked.count) (sym c.in-Hunk.is) (omega arith));
    }

pub loop-adds-preserved : goal.loop-adds-preserved
loop-adds-preserved g c =
    let ranked = c.args.ranked.now in
    record {
      can_next = tt;
      is_finite = tt;
      own = own-more ranked _ _ c.in-Some.field-0-0 c.in-Some.adds.now c.in-Some.ensures.steps c.loop-adds.invariant.own (IsOneOf-reference _ _ c.in_default.not-Hunk);
    }

pub returns : goal.returns
returns g c = obeyed_before-end AllNameOwnHunks _ _ (ap (λ sites. items_of (λ _. sites) c.args.ranked.now) c.in-None.ensures.steps.0) c.loop-adds.invariant.own
