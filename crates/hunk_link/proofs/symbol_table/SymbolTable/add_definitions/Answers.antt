use Rattle.std.proofs.Common.{◌≡◌, ◌≢◌, ℕ, ◌+◌, ◌<◌, List, [], ◌∷◌, ◌++◌, length, get_or, take, drop, None, Ok, ap, sym, subst, ◌∙◌, append_assoc, rules, arith}
use Rattle.std.proofs.lemmas.Grind.{common_steps}
use Rattle.std.proofs.lemmas.List.{append-nil, take_all}
use Rattle.hunk_objects.specs.declared.unit_hunk.Definition.{Definition as UnitDefinition}
use Rattle.hunk_link.specs.FirstToBreak.{IsFirstToBreak}
use Rattle.hunk_link.specs.Ranks.{RankedHunk, items_of}
use Rattle.hunk_link.specs.SymbolTable.{Definition, DefinedOnce, Table, definitions_in, entry, look_up}
use Rattle.hunk_link.proofs.ItemsLemmas.{IsAt-same, items_of-around, items_of-more}
use Rattle.hunk_link.proofs.SymbolTableLemmas.{IsTableOf, IsTableOf-more, first_duplicate}
use Rattle.hunk_link.proofs.symbol_table.SymbolTable.add_definitions.Goals as goal

-- the next definition
module _ (before : List Definition) (ranked : RankedHunk) (xs : List (List ℕ × UnitDefinition)) (i : ℕ) (x : List ℕ × UnitDefinition)
    (within : i < length xs) (is : x ≡ get_or xs i x) (table : Table) (so_far : IsTableOf (before ++ items_of (λ _. take i xs) ranked) table) where
  added : (new : Table) → look_up table x.0 ≡ None → new ≡ table ++ entry (ranked, x) ∷ [] → IsTableOf (before ++ items_of (λ _. take (i + 1) xs) ranked) new
  added new absent appended =
      subst (λ definitions. IsTableOf definitions new)
      (append_assoc before (items_of (λ _. take i xs) ranked) ((ranked, x) ∷ []) ∙ ap (λ own. before ++ own) (sym (items_of-more ranked xs i x within is)))
      (IsTableOf-more so_far (ranked, x) new absent appended)

  twice : xs ≡ ranked.hunk.definitions → look_up table x.0 ≢ None → IsFirstToBreak DefinedOnce (before ++ items_of definitions_in ranked) (ranked, x)
  twice all there =
      subst (λ definitions. IsFirstToBreak DefinedOnce definitions (ranked, x))
      (append_assoc before (items_of (λ _. take i xs) ranked) ((ranked, x) ∷ items_of (λ _. drop (i + 1) xs) ranked)
      ∙ ap (λ own. before ++ own) (items_of-around ranked xs i x within is ∙ ap (λ own. items_of (λ _. own) ranked) all))
      (first_duplicate so_far (ranked, x) (items_of (λ _. drop (i + 1) xs) ranked) there)

pub loop-name-init : goal.loop-name-init
loop-name-init g c = λ before start. subst (λ definitions. IsTableOf definitions c.args.self.now) (sym (append-nil before)) start

pub returns-then-not-branch-clause-twice : goal.returns-then-not-branch-clause-twice
returns-then-not-branch-clause-twice g c = λ before is once.
    let ranked = c.args.ranked.now in
    let x = c.loop-name-item.result in
    let all : c.definitions-name-items.result.now ≡ ranked.hunk.definitions = c.definitions-name-items.ensures ∙ ap (λ (r : RankedHunk). r.hunk.definitions) c.ranked.view_is in
    let so_far = c.loop-name.invariant before (record { entries_are = is; once = once }) in
    let there = c.in_ok-add.ensures.there (ap Ok c.if-not-branch.true) in
    record {
      ranked = ranked;
      definition = x.1;
      at = IsAt-same _ _ c.ranked.view_is;
      first = subst (λ name. IsFirstToBreak DefinedOnce (before ++ items_of definitions_in ranked) (ranked, (name, x.1))) (sym c.in_ok-copy.ensures)
          (twice before ranked _ _ x c.loop-name-test.true c.loop-name-item.is _ so_far all there);
    }

pub loop-name-preserved : goal.loop-name-preserved
loop-name-preserved g c = λ before start.
    let ranked = c.args.ranked.now in
    let x = c.loop-name-item.result in
    let new = c.in_ok-add.ensures.added (ap Ok c.if-not-branch.false) in
    added before ranked _ _ x c.loop-name-test.true c.loop-name-item.is _ (c.loop-name.invariant before start) _ new.0
    (new.1 ∙ ap (λ (r : RankedHunk). c.loop-name.self ++ entry (r, x) ∷ []) c.ranked.view_is)

pub returns-clause-added : goal.returns-clause-added
returns-clause-added g c = λ before is once.
    let ranked = c.args.ranked.now in
    let all : take c.loop-name.name-index c.definitions-name-items.result.now ≡ ranked.hunk.definitions =
    take_all _ _ c.loop-name-test.false ∙ c.definitions-name-items.ensures ∙ ap (λ (r : RankedHunk). r.hunk.definitions) c.ranked.view_is in
    let done = subst (λ own. IsTableOf (before ++ items_of (λ _. own) ranked) c.loop-name.self) all (c.loop-name.invariant before (record { entries_are = is; once = once })) in
    (done.entries_are, done.once)

-- `grind` at once: `search`, which Rattle tries before it, is slow here
pub overflow_add-defined : goal.overflow_add-defined
overflow_add-defined g c = grind (rules, arith, common_steps)
