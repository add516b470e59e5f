use Rattle.std.proofs.Common.{sym, subst, arith}
use Rattle.std.proofs.lemmas.List.{take_all}
use Rattle.std.proofs.lemmas.Result.{err_from_is_err_and}
use Rattle.hunk_link.specs.Ranks.{items_of}
use Rattle.hunk_link.specs.SymbolTable.{definitions_in, definitions_of}
use Rattle.hunk_link.proofs.ItemsLemmas.{all_items-around, flat_map-more}
use Rattle.hunk_link.proofs.SymbolTableLemmas.{IsDuplicate-front, IsTableOf}
use Rattle.hunk_link.proofs.symbol_table.symbol_table.Goals as goal

pub loop-ranked-init : goal.loop-ranked-init
loop-ranked-init g c = record { entries_are = c.in_ok-table.ensures; once = λ i j d before within. absurd (omega arith) }

pub returns-in_err-add_definitions-clause-twice : goal.returns-in_err-add_definitions-clause-twice
returns-in_err-add_definitions-clause-twice g c =
    let so_far = c.loop-ranked.invariant in
    let p = err_from_is_err_and c.from_residual-in_err-add_definitions.result c.from_residual-in_err-add_definitions.ensures.1 in
    let whole = all_items-around definitions_in _ _ c.ranked-item.result c.loop-ranked-test.true c.ranked-item.is in
    rw (p.1, p.2) (IsDuplicate-front _ _ _ c.in_err-add_definitions.field-0.0 whole (c.in_err-add_definitions.ensures.twice _ so_far.entries_are so_far.once))

pub loop-ranked-preserved : goal.loop-ranked-preserved
loop-ranked-preserved g c =
    let so_far = c.loop-ranked.invariant in
    let added = c.in_ok-add_definitions.ensures.added _ so_far.entries_are so_far.once in
    subst (λ definitions. IsTableOf definitions c.add_definitions.new.self)
    (sym (flat_map-more (items_of definitions_in) _ _ c.ranked-item.result c.loop-ranked-test.true c.ranked-item.is))
    (record { entries_are = added.0; once = added.1 })

pub returns-clause-table : goal.returns-clause-table
returns-clause-table g c = (subst (λ hunks. IsTableOf (definitions_of hunks) c.loop-ranked.table) (take_all _ _ c.loop-ranked-test.false) c.loop-ranked.invariant).entries_are

pub returns-clause-once : goal.returns-clause-once
returns-clause-once g c = (subst (λ hunks. IsTableOf (definitions_of hunks) c.loop-ranked.table) (take_all _ _ c.loop-ranked-test.false) c.loop-ranked.invariant).once
