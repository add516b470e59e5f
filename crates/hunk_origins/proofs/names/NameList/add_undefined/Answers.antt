-- One more name, and all of them.
use Rattle.std.proofs.Common.{◌∙◌, ◌<◌, ◌≤◌, ◌++◌, ◌∷◌, [], ℕ, List, Some, map, take, length, ap, append_assoc, sym, arith}
use Rattle.std.specs.Prelude.{slice_get}
use Rattle.std.proofs.lemmas.List.{map_more, take_all}
use Rattle.std.proofs.lemmas.Option.{get_or_from_slice_get}
use Rattle.hunk_origins.specs.Names.{Entry, undefined_entry}
use Rattle.hunk_origins.specs.Origins.{Origin}
use Rattle.hunk_origins.specs.Undefined.{Use, Uses}
use Rattle.hunk_origins.proofs.UndefinedLemmas.{slice_get-within}
use Rattle.hunk_origins.proofs.names.NameList.add_undefined.Goals as goal
use Rattle.hunk_origins.proofs.names.NameList.add_undefined.Goals.{in-Some+in_ok-push, in_default}

pub loop-index-preserved : goal.loop-index-preserved
loop-index-preserved g c =
    let index = c.loop-index.index in
    let uses = c.uses.inside.entries.entries in
    let entry = undefined_entry (Some c.args.unit) c.args.origin.now.number in
    let within : index < length uses = omega (arith, c.loop-index-test.true, c.len-index-end.ensures, ap length c.uses.view_is) in
    let before = c.args.self.now in
    elim c.match-get.branch [
      | in-Some+in_ok-push w ↦
          let used : List ℕ × Use = (w.in-Some.name.now, w.in-Some.field-0-1.now) in
          ap (λ names. names.entries.items) w.self-inside-is ∙ w.in_ok-push.ensures.items
          ∙ ap (λ (o : Origin). c.loop-index.self-inside.entries.items ++ undefined_entry (Some c.args.unit) o.number used ∷ []) c.origin.view_is
          ∙ ap (λ (made : List Entry). made ++ entry used ∷ []) c.loop-index.invariant
          ∙ append_assoc before (map entry (take index uses)) (entry used ∷ [])
          ∙ ap (λ (made : List Entry). before ++ made)
          (sym (map_more entry uses index used within ∙ ap (λ (u : List ℕ × Use). map entry (take index uses) ++ entry u ∷ []) (get_or_from_slice_get uses index used used (ap (λ (us : Uses). slice_get us index) c.uses.view_is ∙ sym w.in-Some.ensures))))
      | in_default w ↦ absurd (slice_get-within uses index within (w.in_default.ensures ∙ sym (ap (λ (us : Uses). slice_get us index) c.uses.view_is)))
    ]

pub returns : goal.returns
returns g c = λ all defined.
    let uses = c.uses.inside.entries.entries in
    let entry = undefined_entry (Some c.args.unit) c.args.origin.now.number in
    let ended : length uses ≤ c.loop-index.index = omega (arith, c.loop-index-test.false, c.len-index-end.ensures, ap length c.uses.view_is) in
    c.loop-index.invariant
    ∙ ap (λ (us : Uses). c.args.self.now ++ map entry us) (take_all c.loop-index.index uses ended ∙ c.uses.view_is ∙ c.in_ok-add_hunk.ensures [] all c.none-uses.ensures defined)
