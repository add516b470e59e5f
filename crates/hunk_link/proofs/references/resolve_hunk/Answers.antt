use Rattle.std.proofs.Common.{◌≡◌, ◌++◌, ◌∷◌, [], List, ℕ, IsSome, refl, map, ◌+◌, ◌<◌, length, get_or, take, ap, sym, subst, ◌∙◌, append-nil, append_assoc, arith}
use Rattle.std.proofs.lemmas.Bool.{false≢true}
use Rattle.std.proofs.lemmas.List.{at_drop_all, map_more, take_all}
use Rattle.std.proofs.lemmas.List.Elements.{All-nil}
use Rattle.hunk_link.specs.Addend.{name_addend, defined_addend}
use Rattle.hunk_link.specs.FirstToBreak.{IsFirstToBreak}
use Rattle.hunk_link.specs.Ranks.{RankedHunk, items_of}
use Rattle.hunk_link.specs.SymbolTable.{Table}
use Rattle.hunk_link.specs.declared.addend.Addend.{Addend}
use Rattle.hunk_link.specs.References.{AllDefined, IsDefined, references_in}
use Rattle.hunk_link.proofs.FirstToBreakLemmas.{first-item, obeyed_before-end, obeyed_before-item, obeyed_before-start}
use Rattle.hunk_link.proofs.ItemsLemmas.{IsAt-same, items_of-next}
use Rattle.hunk_link.proofs.references.resolve_hunk.Goals as goal

addends-more : (table : Table) (names : List (List ℕ)) (i : ℕ) (name : List ℕ) (addend : Addend) (start made new : List Addend)
    → i < length names → name ≡ get_or names i name → addend ≡ name_addend table name
    → made ≡ start ++ map (name_addend table) (take i names) → new ≡ made ++ addend ∷ [] → new ≡ start ++ map (name_addend table) (take (i + 1) names)
addends-more table names i name addend start made new within is adds so_far pushed =
    pushed ∙ (λ j. so_far j ++ adds j ∷ [])
    ∙ append_assoc start (map (name_addend table) (take i names)) (name_addend table name ∷ [])
    ∙ ap (λ own. start ++ own) (ap (λ n. map (name_addend table) (take i names) ++ name_addend table n ∷ []) is ∙ sym (map_more (name_addend table) names i name within))

pub loop-name-init : goal.loop-name-init
loop-name-init g c =
    let ranked = c.args.ranked.now in
    let all : c.references-name-items.result.now ≡ ranked.hunk.references = c.references-name-items.ensures.value ∙ ap (λ (r : RankedHunk). r.hunk.references) c.ranked.view_is in
    let count : length c.references.result.now ≡ length c.references-name-items.result.now = ap length (c.references.ensures.value ∙ sym c.references-name-items.ensures.value) in
    record {
      room = omega (arith, count, c.in_ok-reserve.ensures.ok, c.in_ok-reserve.ensures.len);
      len = omega (arith, c.in_ok-reserve.ensures.len);
      value = c.in_ok-reserve.ensures.items ∙ sym (append-nil c.args.addends.now.items);
      defined = obeyed_before-start (AllDefined c.args.table.now) _ _ (ap (λ names. items_of (λ _. names) ranked) all) (All-nil (IsDefined c.args.table.now));
    }

pub push_reserved-requires : goal.push_reserved-requires
push_reserved-requires g c = omega (arith, c.loop-name.invariant)

pub returns-in-None-clause-undefined : goal.returns-in-None-clause-undefined
returns-in-None-clause-undefined g c =
    let ranked = c.args.ranked.now in
    let table = c.args.table.now in
    let name = c.name-item.result in
    let next = items_of-next ranked _ _ name c.loop-name-test.true c.name-item.is in
    let undefined : IsDefined table (ranked, name) → ⊥ = λ defined. false≢true (subst IsSome (sym c.in-None.ensures) defined) in
    record {
      ranked = ranked;
      at = IsAt-same _ _ c.ranked.view_is;
      first = subst (λ n. IsFirstToBreak (AllDefined table) (items_of references_in ranked) (ranked, n)) (sym c.in_ok-copy-in-None.ensures)
          (first-item (IsDefined table) c.loop-name.invariant.defined _ (ranked, name) next undefined);
    }

pub loop-name-preserved : goal.loop-name-preserved
loop-name-preserved g c =
    let ranked = c.args.ranked.now in
    let table = c.args.table.now in
    let name = c.name-item.result in
    let kept = c.loop-name.invariant in
    let next = items_of-next ranked _ _ name c.loop-name-test.true c.name-item.is in
    record {
      room = omega (arith, kept.room, c.push_reserved.ensures.capacity);
      len = omega (arith, kept.len, c.push_reserved.ensures.len);
      value = addends-more table _ _ name c.of_name.result _ _ _ c.loop-name-test.true c.name-item.is (c.of_name.ensures ∙ ap defined_addend c.in-Some.ensures) kept.value c.push_reserved.ensures.items;
      defined = obeyed_before-item (IsDefined table) kept.defined _ (ranked, name) next (subst IsSome c.in-Some.ensures refl);
    }

pub returns-clause-addends : goal.returns-clause-addends
returns-clause-addends g c =
    let all : take c.loop-name.name-index c.references-name-items.result.now ≡ c.args.ranked.now.hunk.references =
    take_all _ _ c.loop-name-test.false ∙ c.references-name-items.ensures.value ∙ ap (λ (r : RankedHunk). r.hunk.references) c.ranked.view_is in
    c.loop-name.invariant.value ∙ ap (λ names. c.args.addends.now.items ++ map (name_addend c.args.table.now) names) all

pub returns-clause-defined : goal.returns-clause-defined
returns-clause-defined g c =
    obeyed_before-end (AllDefined c.args.table.now) _ _ (at_drop_all (λ names. items_of (λ _. names) c.args.ranked.now) _ c.loop-name.name-index c.loop-name-test.false) c.loop-name.invariant.defined
