-- One of the names of the hunk.
use Rattle.std.proofs.Common.{◌≡◌, ◌+◌, ◌<◌, ◌∙◌, ◌||◌, ℕ, Bool, List, ap, drop, get_or, length, sym}
use Rattle.std.proofs.lemmas.List.{drop_more}
use Rattle.std.specs.List.{list_any}
use Rattle.hunk_objects.specs.declared.unit_hunk.Definition.{Definition}
use Rattle.hunk_origins.specs.DefinedNames.{is_name}
use Rattle.hunk_origins.proofs.defined_names.defines.Goals as goal

abbrev is_its : List ℕ → List ℕ × Definition → Bool
is_its name definition = is_name name definition.0

-- what is told of the elements that are left, by what is told of the first of them
one : {X : Type 0} (test : X → Bool) (xs : List X) (index : ℕ) (x : X) (told all : Bool) → index < length xs → x ≡ get_or xs index x → test x ≡ told
    → list_any test (drop index xs) ≡ all → (told || list_any test (drop (index + 1) xs)) ≡ all
one test xs index x told all within is tells left =
    let others = list_any test (drop (index + 1) xs) in
    ap (λ first. first || others) (sym tells ∙ ap test is) ∙ ap (list_any test) (sym (drop_more xs index x within)) ∙ left

pub loop-own-init : goal.loop-own-init
loop-own-init g c = ap (list_any (is_its c.args.name.now)) c.definitions-own-items.ensures

pub loop-own-preserved : goal.loop-own-preserved
loop-own-preserved g c =
    let other = ap (is_name c.args.name.now) (sym c.bytes.ensures.value) ∙ sym c.eq.ensures ∙ c.if-eq.false in
    one (is_its c.args.name.now) c.definitions-own-items.result.now c.loop-own.own-index c.loop-own-item.result _ _ c.loop-own-test.true c.loop-own-item.is other c.loop-own.invariant

pub returns-then-eq : goal.returns-then-eq
returns-then-eq g c =
    let same = ap (is_name c.args.name.now) (sym c.bytes.ensures.value) ∙ sym c.eq.ensures ∙ c.if-eq.true in
    one (is_its c.args.name.now) c.definitions-own-items.result.now c.loop-own.own-index c.loop-own-item.result _ _ c.loop-own-test.true c.loop-own-item.is same c.loop-own.invariant
