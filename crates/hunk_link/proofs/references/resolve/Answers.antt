use Rattle.std.proofs.Common.{◌≡◌, ◌++◌, List, refl, ap, sym, ◌∙◌}
use Rattle.std.proofs.lemmas.List.{at_drop_all, take_all}
use Rattle.std.proofs.lemmas.List.Elements.{All-nil}
use Rattle.std.proofs.lemmas.Result.{err_from_is_err_and}
use Rattle.hunk_link.specs.Addend.{reference_addends}
use Rattle.hunk_link.specs.Carried.{all_addends}
use Rattle.hunk_link.specs.Ranks.{RankedHunk, items_of}
use Rattle.hunk_link.specs.References.{AllDefined, IsDefined, IsUndefined, Reference, references_in, references_of}
use Rattle.hunk_link.specs.SymbolTable.{Table}
use Rattle.hunk_link.specs.declared.refusal.LinkRefusal.{LinkRefusal}
use Rattle.hunk_link.specs.declared.refusal.LinkRefusal.TheVariants.{UndefinedName, OutOfMemory}
use Rattle.hunk_link.proofs.FirstToBreakLemmas.{IsObeyedBefore, first-chunk, obeyed_before-chunk, obeyed_before-end, obeyed_before-start}
use Rattle.hunk_link.proofs.ItemsLemmas.{all_items-next, flat_map-more}
use Rattle.hunk_link.proofs.references.resolve.Goals as goal

-- a refusal of the next references is one of all of them
IsUndefined-next : {A : Type 0} (table : Table) (left own rest references : List Reference) (refusal : LinkRefusal A)
    → left ≡ own ++ rest → IsObeyedBefore (AllDefined table) left references → IsUndefined table own refusal → IsUndefined table references refusal
IsUndefined-next table left own rest references (UndefinedName unit hunk name) next so_far undefined = record {
  ranked = undefined.ranked;
  at = undefined.at;
  first = first-chunk (IsDefined table) so_far rest own next (undefined.ranked, name) undefined.first;
}
IsUndefined-next table left own rest references OutOfMemory next so_far undefined = tt
IsUndefined-next table left own rest references _ next so_far undefined = undefined

pub loop-ranked-init : goal.loop-ranked-init
loop-ranked-init g c = record {
  value = c.in_ok-addends.ensures.items;
  defined = obeyed_before-start (AllDefined c.args.table.now) _ _ refl (All-nil (IsDefined c.args.table.now));
}

pub returns-in_err-resolve_hunk-clause-undefined : goal.returns-in_err-resolve_hunk-clause-undefined
returns-in_err-resolve_hunk-clause-undefined g c =
    let p = err_from_is_err_and c.from_residual-in_err-resolve_hunk.result c.from_residual-in_err-resolve_hunk.ensures.1 in
    let next = all_items-next references_in _ _ c.ranked-item.result c.loop-ranked-test.true c.ranked-item.is in
    rw (p.1, p.2) (IsUndefined-next c.args.table.now _ (items_of references_in c.ranked-item.result) _ _ c.in_err-resolve_hunk.field-0.0 next c.loop-ranked.invariant.defined c.in_err-resolve_hunk.ensures.undefined)

pub loop-ranked-preserved : goal.loop-ranked-preserved
loop-ranked-preserved g c =
    let table = c.args.table.now in
    let ranked = c.ranked-item.result in
    let next = all_items-next references_in _ _ ranked c.loop-ranked-test.true c.ranked-item.is in
    record {
      value = c.in_ok-resolve_hunk.ensures.addends ∙ ap (λ made. made ++ reference_addends table ranked.hunk) c.loop-ranked.invariant.value
          ∙ sym (flat_map-more (λ (r : RankedHunk). reference_addends table r.hunk) _ _ ranked c.loop-ranked-test.true c.ranked-item.is);
      defined = obeyed_before-chunk (IsDefined table) c.loop-ranked.invariant.defined _ (items_of references_in ranked) next c.in_ok-resolve_hunk.ensures.defined;
    }

pub returns-clause-addends : goal.returns-clause-addends
returns-clause-addends g c = c.loop-ranked.invariant.value ∙ ap (all_addends c.args.table.now) (take_all _ _ c.loop-ranked-test.false)

pub returns-clause-defined : goal.returns-clause-defined
returns-clause-defined g c =
    obeyed_before-end (AllDefined c.args.table.now) _ _ (at_drop_all references_of c.args.hunks.now c.loop-ranked.ranked-index c.loop-ranked-test.false) c.loop-ranked.invariant.defined
