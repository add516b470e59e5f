use Rattle.std.proofs.Common.{◌≡◌, true, false, not, nat_eq, Option, None, Some, is_some, true≢false, ◌++◌, ◌∷◌, [], ap, sym, ◌∙◌}
use Rattle.std.specs.Cmp.Lexicographic.{pointwise}
use Rattle.hunk_link.specs.SymbolTable.{look_up}
use Rattle.indexmap.proofs.CallerLemmas.{insert_entry-new}
use Rattle.hunk_link.proofs.symbol_table.SymbolTable.add.Goals as goal
use Rattle.hunk_link.proofs.symbol_table.SymbolTable.add.Goals.{in-Ok, in-Err}

none_from_is_none : {T : Type 0} (o : Option T) → is_some o ≡ false → o ≡ None
none_from_is_none None told = λ _. None
none_from_is_none (Some x) told = cc

pub returns-clause-added : goal.returns-clause-added
returns-clause-added g c =
    let key = c.new.result in
    let same = c.new.ensures ∙ c.bytes.ensures.value in
    let m = c.self.inside.entries in
    elim c.match-insert.branch [
      | in-Ok w ↦ λ added.
          let was_none : w.is_none.result ≡ true = cc in
          let before : w.in-Ok.before ≡ None = none_from_is_none w.in-Ok.before (w.is_none.ensures ∙ ap not was_none) in
          let absent = sym w.in-Ok.ensures.old ∙ before in (
            ap (look_up c.args.self.now) (sym same) ∙ sym (ap (λ table. look_up table key) c.self.view_is) ∙ absent,
            w.in-Ok.ensures.entries ∙ insert_entry-new (pointwise nat_eq) m key c.args.defined absent ∙ ap (λ table. table ++ (key, c.args.defined) ∷ []) c.self.view_is
                ∙ ap (λ name. c.args.self.now ++ (name, c.args.defined) ∷ []) same,
          )
      | in-Err w ↦ λ added. cc
    ]

pub returns-clause-there : goal.returns-clause-there
returns-clause-there g c =
    let key = c.new.result in
    elim c.match-insert.branch [
      | in-Ok w ↦ λ there absent.
          let was_some : w.is_none.result ≡ false = cc in
          let is : w.in-Ok.before ≡ None = w.in-Ok.ensures.old ∙ ap (λ table. look_up table key) c.self.view_is ∙ ap (look_up c.args.self.now) (c.new.ensures ∙ c.bytes.ensures.value) ∙ absent in
          true≢false (sym (w.is_none.ensures ∙ ap not was_some) ∙ ap is_some is)
      | in-Err w ↦ λ there absent. cc
    ]
