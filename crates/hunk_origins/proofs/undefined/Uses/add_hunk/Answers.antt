-- One more name.
use Rattle.std.proofs.Common.{◌≡◌, ◌∙◌, ◌++◌, ◌∷◌, [], List, Bool, false, true, ap, append-nil, append_assoc, sym, take}
use Rattle.std.proofs.lemmas.List.{take_all}
use Rattle.hunk_origins.specs.DefinedNames.{is_defined}
use Rattle.hunk_origins.specs.Origins.{Origin}
use Rattle.hunk_origins.specs.Undefined.{Reference, Uses, undefined, uses_of}
use Rattle.hunk_origins.proofs.UndefinedLemmas.{from_hunk, undefined-more, uses_of-more, with_reference}
use Rattle.hunk_origins.proofs.undefined.Uses.add_hunk.Goals as goal
use Rattle.hunk_origins.proofs.undefined.Uses.add_hunk.Goals.{then-not-has+in_ok-add, else-not-has}

pub loop-name-init : goal.loop-name-init
loop-name-init g c = λ before hunks is defined. is ∙ ap uses_of (sym (append-nil before))

pub loop-name-preserved : goal.loop-name-preserved
loop-name-preserved g c = λ before hunks is defined.
    let origin = c.args.origin.now in
    let names = c.references-name-items.result.now in
    let index = c.loop-name.name-index in
    let name = c.name-item.result in
    let reference : Reference = (name, origin) in
    let earlier : List Reference = undefined hunks (from_hunk origin (take index names)) in
    let so_far : c.loop-name.self ≡ uses_of (before ++ earlier) = c.loop-name.invariant before hunks is defined in
    let told : c.has.result ≡ is_defined name hunks = c.has.ensures ∙ defined c.bytes.result.now ∙ ap (λ n. is_defined n hunks) c.bytes.ensures.value in
    let next = λ (defined_there : Bool) (there : defined_there ≡ is_defined name hunks). undefined-more hunks origin names index name defined_there c.loop-name-test.true c.name-item.is there in
    elim c.if-not-has.branch [
      | then-not-has+in_ok-add w ↦
          w.self-is ∙ w.in_ok-add.ensures
          ∙ ap (λ n. with_reference c.loop-name.self (n, origin)) w.bytes-then-not-has.ensures.value
          ∙ ap (λ (uses : Uses). with_reference uses reference) so_far
          ∙ sym (uses_of-more (before ++ earlier) reference)
          ∙ ap uses_of (append_assoc before earlier (reference ∷ []))
          ∙ ap (λ (more : List Reference). uses_of (before ++ more)) (sym (next false (sym w.if-not-has.true ∙ told)))
      | else-not-has w ↦
          w.self-is ∙ so_far
          ∙ ap (λ (more : List Reference). uses_of (before ++ more)) (sym (next true (sym w.if-not-has.false ∙ told) ∙ append-nil earlier))
    ]

pub returns : goal.returns
returns g c = λ before hunks is defined.
    let origin = c.args.origin.now in
    let all : take c.loop-name.name-index c.references-name-items.result.now ≡ origin.hunk.references =
    take_all _ _ c.loop-name-test.false ∙ c.references-name-items.ensures.value ∙ ap (λ (o : Origin). o.hunk.references) c.origin.view_is in
    c.loop-name.invariant before hunks is defined ∙ ap (λ names. uses_of (before ++ undefined hunks (from_hunk origin names))) all
