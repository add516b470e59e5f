use Rattle.std.proofs.Common.{◌≤◌, ◌++◌, ◌∷◌, [], List, ℕ, length, ap, refl, subst, sym, ◌∙◌}
use Rattle.std.specs.List.{All}
use Rattle.std.proofs.lemmas.List.Elements.{All-push}
use Rattle.hunk_base.specs.Name.{most_name}
use Rattle.hunk_objects.specs.declared.unit_hunk.Definition.{Definition}
use Rattle.hunk_objects.proofs.open_hunk.OpenHunk.add_definition.Goals as goal

abbrev IsBounded : List ℕ × Definition → Type 0
IsBounded definition = length definition.0 ≤ most_name

pub invariant_of-self-2 : goal.invariant_of-self-2
invariant_of-self-2 g c =
    let bounded : IsBounded (c.close.result, c.args.definition) =
    rw (c.close.ensures.bytes, c.replace-whole.ensures.value) (subst (λ count. count ≤ most_name) c.len.ensures c.if-len-gt-MOST_NAME.false) in (
      c.self.invariant.0,
      subst (All IsBounded) (sym (c.push_reserved.ensures.items ∙ ap (λ (list : List (List ℕ × Definition)). list ++ ((c.close.result, c.args.definition) ∷ [])) c.reserve.ensures.items))
          (All-push IsBounded c.self.inside.definitions.items (c.close.result, c.args.definition) c.self.invariant.1 bounded),
      c.self.invariant.2,
    )

pub returns-clause-adds : goal.returns-clause-adds
returns-clause-adds g c = rw (c.push_reserved.ensures.items, c.reserve.ensures.items, c.close.ensures.bytes, c.replace-whole.ensures.value, ← c.self.view_is) refl
