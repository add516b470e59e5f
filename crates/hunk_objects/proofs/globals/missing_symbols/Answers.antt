-- One more definition.
use Rattle.std.proofs.Common.{◌≡◌, ◌∙◌, ◌≤◌, ◌++◌, ◌∷◌, [], ℕ, List, Bool, false, true, ap, length, not, subst, sym, take}
use Rattle.std.specs.List.{All}
use Rattle.std.proofs.lemmas.List.{take_all}
use Rattle.std.proofs.lemmas.List.Elements.{All-push}
use Rattle.hunk_base.specs.Name.{most_name}
use Rattle.hunk_objects.specs.Globals.{Symbol, global_symbols, is_among, others}
use Rattle.hunk_objects.specs.UnitHunk.{ObjectHunk}
use Rattle.hunk_objects.specs.declared.unit_hunk.Definition.{Definition}
use Rattle.hunk_objects.proofs.GlobalsLemmas.{others-absolute, others-new, others-there, short-at}
use Rattle.hunk_objects.proofs.globals.missing_symbols.Goals as goal
use Rattle.hunk_objects.proofs.globals.missing_symbols.Goals.{in-At+then-not-has+in_ok-copy-in-At+in_ok-push-in-At, in-At+else-not-has, in-Absolute}

pub loop-name-preserved : goal.loop-name-preserved
loop-name-preserved g c =
    let items = c.deref-name-items.result.now in
    let i = c.loop-name.name-index in
    let x : List ℕ × Definition = c.loop-name-item.result in
    let own = c.args.hunk.now.symbols in
    let held = c.loop-name.invariant in
    let there = λ (symbol : Symbol). c.in_ok-own.ensures symbol ∙ ap (λ symbols. is_among symbols symbol) (c.deref.ensures.value ∙ ap (λ (h : ObjectHunk). h.symbols) c.hunk.view_is) in
    elim c.match-definition.branch [
      | in-At+then-not-has+in_ok-copy-in-At+in_ok-push-in-At w ↦
          let offset = w.in-At.offset in
          let copied = w.in_ok-copy-in-At.ensures in
          let pushed = ap (λ v. v.items) w.more-is ∙ w.in_ok-push-in-At.ensures.items ∙ ap (λ name. c.loop-name.more.items ++ (name, offset) ∷ []) copied in
          let absent = sym (there (x.0, offset)) ∙ sym w.has.ensures ∙ w.if-not-has.true in
          let within = short-at c.hunk.inside.definitions.items items i x c.deref-name-items.ensures.value c.loop-name-test.true c.loop-name-item.is c.hunk.invariant.defined in
          record {
            value = pushed ∙ ap (λ (symbols : List Symbol). symbols ++ (x.0, offset) ∷ []) held.value ∙ sym (others-new own items i x offset c.loop-name-test.true c.loop-name-item.is w.in-At.is absent);
            short = subst (All (λ (symbol : Symbol). length symbol.0 ≤ most_name)) (sym pushed) (All-push (λ (symbol : Symbol). length symbol.0 ≤ most_name) c.loop-name.more.items (x.0, offset) held.short within);
          }
      | in-At+else-not-has w ↦
          let offset = w.in-At.offset in
          let same = ap (λ v. v.items) w.more-is in
          let found = sym (there (x.0, offset)) ∙ sym w.has.ensures ∙ w.if-not-has.false in
          record {
            value = same ∙ held.value ∙ sym (others-there own items i x offset c.loop-name-test.true c.loop-name-item.is w.in-At.is found);
            short = subst (All (λ (symbol : Symbol). length symbol.0 ≤ most_name)) (sym same) held.short;
          }
      | in-Absolute w ↦
          let same = ap (λ v. v.items) w.more-is in
          record {
            value = same ∙ held.value ∙ sym (others-absolute own items i x _ c.loop-name-test.true c.loop-name-item.is w.in-Absolute.is);
            short = subst (All (λ (symbol : Symbol). length symbol.0 ≤ most_name)) (sym same) held.short;
          }
    ]

pub returns-clause-value : goal.returns-clause-value
returns-clause-value g c =
    let all = take_all _ _ c.loop-name-test.false ∙ c.deref-name-items.ensures.value in
    c.loop-name.invariant.value ∙ ap (λ definitions. others c.args.hunk.now.symbols (global_symbols definitions)) (all ∙ ap (λ (h : ObjectHunk). h.definitions) c.hunk.view_is)
