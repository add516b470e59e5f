-- One more name.
use Rattle.std.proofs.Common.{◌∙◌, ◌<◌, ◌++◌, ◌∷◌, [], ℕ, List, Vec, map, take, length, ap, sym, arith}
use Rattle.std.proofs.lemmas.List.{map_more}
use Rattle.std.proofs.lemmas.Option.{get_or_from_slice_get}
use Rattle.hunk_origins.specs.Undefined.{Use}
use Rattle.hunk_origins.specs.UndefinedName.{UndefinedName, undefined_name}
use Rattle.hunk_origins.proofs.UndefinedLemmas.{slice_get-within}
use Rattle.hunk_origins.proofs.undefined_name.told_of.Goals as goal
use Rattle.hunk_origins.proofs.undefined_name.told_of.Goals.{in-Some+in_ok-told+in_ok-push, in_default}

pub loop-index-preserved : goal.loop-index-preserved
loop-index-preserved g c =
    let index = c.loop-index.index in
    let uses = c.args.uses.now in
    let within : index < length uses = omega (arith, c.loop-index-test.true, c.len-index-end.ensures) in
    elim c.match-get.branch [
      | in-Some+in_ok-told+in_ok-push w ↦
          let used : List ℕ × Use = (w.in-Some.name.now, w.in-Some.used.now) in
          ap (λ (names : Vec UndefinedName g.row.A.Denot). names.items) w.names-is ∙ w.in_ok-push.ensures.items
          ∙ ap (λ (told : UndefinedName). c.loop-index.names.items ++ told ∷ []) w.in_ok-told.ensures
          ∙ ap (λ (all : List UndefinedName). all ++ undefined_name used ∷ []) c.loop-index.invariant
          ∙ sym (map_more undefined_name uses index used within ∙ ap (λ (u : List ℕ × Use). map undefined_name (take index uses) ++ undefined_name u ∷ []) (get_or_from_slice_get uses index used used (sym w.in-Some.ensures)))
      | in_default w ↦ absurd (slice_get-within uses index within w.in_default.ensures)
    ]
