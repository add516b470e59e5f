use Rattle.std.proofs.Common.{◌++◌, ◌∷◌, [], List, Result, Ok, Err, OnErr, arith, ap, refl, sym, subst, ◌∙◌}
use Rattle.std.proofs.lemmas.Grind.{common_steps}
use Rattle.std.proofs.lemmas.List.Elements.{All-push}
use Rattle.std.specs.List.{All}
use Rattle.hunk_objects.specs.OpenHunk.{Shows}
use Rattle.hunk_objects.specs.OpenUnit.{UnitSoFar}
use Rattle.hunk_objects.specs.UnitHunk.{IsUnitHunk, ObjectHunk}
use Rattle.hunk_objects.proofs.open_unit.OpenUnit.add_hunk.Goals as goal

pub invariant_of-self-2 : goal.invariant_of-self-2
invariant_of-self-2 g c =
    subst (All IsUnitHunk) (sym (c.push_reserved.ensures.items ∙ ap (λ (hunks : List ObjectHunk). hunks ++ (c.close.result ∷ [])) c.reserve.ensures.items))
    (All-push IsUnitHunk c.self.inside.hunks.items c.close.result c.self.invariant c.close.ensures.valid)

pub returns-clause-adds : goal.returns-clause-adds
returns-clause-adds g c = λ limit seen in_content told shows.
    c.push_reserved.ensures.items ∙ ap (λ (hunks : List ObjectHunk). hunks ++ (c.close.result ∷ [])) (c.reserve.ensures.items ∙ ap (λ (u : UnitSoFar g.row.A.Denot). u.hunks) c.self.view_is)
    ∙ ap (λ (hunk : ObjectHunk). c.args.self.now.hunks ++ (hunk ∷ [])) (c.close.ensures.value limit seen in_content told (subst (λ h. Shows h limit seen in_content told) (sym c.replace-whole.ensures.value) shows))

pub invariant_of-self : goal.invariant_of-self
invariant_of-self g c = subst (All IsUnitHunk) (sym c.reserve.ensures.items) c.self.invariant

on_err : {T E P : Type 0} (r : Result T E) → P → OnErr r P
on_err (Ok _) p = tt
on_err (Err _) p = p

pub returns-in_err-reserve-clause-refused : goal.returns-in_err-reserve-clause-refused
returns-in_err-reserve-clause-refused g c =
    on_err _ (ap (λ (hunks : List ObjectHunk). record { name = c.self.inside.name; hunks = hunks }) c.reserve.ensures.items ∙ c.self.view_is)

pub close-requires-clause-whole : goal.close-requires-clause-whole
close-requires-clause-whole g c = rw c.replace-whole.ensures.value (c.if-not-is_whole.ensures.whole refl)

pub close-requires-clause-limit : goal.close-requires-clause-limit
close-requires-clause-limit g c = rw c.replace-whole.ensures.value (c.if-not-is_whole.ensures.limit refl)

pub close-requires-clause-apart : goal.close-requires-clause-apart
close-requires-clause-apart g c = rw c.replace-whole.ensures.value (c.if-not-is_whole.ensures.apart refl)

pub push_reserved-requires : goal.push_reserved-requires
push_reserved-requires g c = grind (arith, common_steps)
