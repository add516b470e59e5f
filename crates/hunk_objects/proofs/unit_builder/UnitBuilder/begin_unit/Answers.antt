use Rattle.std.proofs.Common.{◌≡◌, ◌<◌, ◌++◌, ◌∷◌, [], List, Some, None, false, vec_len, vec_capacity, ap, sym, ◌∙◌, arith}
use Rattle.hunk_objects.specs.OpenHunk.{UnitHunkSoFar}
use Rattle.hunk_objects.specs.ProgramUnit.{ObjectUnit}
use Rattle.hunk_objects.specs.UnitBuilder.{units_so_far}
use Rattle.hunk_objects.specs.declared.unit_builder.UnitBuilder.{UnitBuilder}
use Rattle.hunk_objects.proofs.UnitBuilderLemmas.{Holds-unit}
use Rattle.hunk_objects.proofs.unit_builder.UnitBuilder.begin_unit.Goals as goal
use Rattle.hunk_objects.proofs.unit_builder.UnitBuilder.begin_unit.Goals.{in-Some, in-None}

pub returns : goal.returns
returns g c = elim c.match-replace.branch [
  | in-Some w ↦
      let old = c.args.self.now in
      let pushed = w.push_reserved.ensures in
      let ended : old.unit ≡ Some w.in-Some.unit = sym c.replace.ensures.value ∙ w.in-Some.is in
      let items : w.push_reserved.new.self.items ≡ units_so_far old.units.items old.unit =
      pushed.items ∙ ap (λ (us : List ObjectUnit). us ++ (w.close.result ∷ [])) c.reserve.ensures.items
      ∙ ap (λ (u : ObjectUnit). old.units.items ++ (u ∷ [])) w.close.ensures ∙ ap (λ u. units_so_far old.units.items u) (sym ended) in
      let room : vec_len w.push_reserved.new.self < vec_capacity w.push_reserved.new.self = omega (arith, pushed.len, pushed.capacity, c.in-Ok.ensures.ok) in
      rw (w.self-is, c.replace.ensures.after)
      (λ told context h. Holds-unit old w.push_reserved.new.self c.new.result c.end_content.new.self told context items room c.new.ensures.name c.new.ensures.hunks
      (c.end_content.ensures ∙ ap (λ (b : UnitBuilder g.row.A.Denot). let hunk : UnitHunkSoFar g.row.A.Denot = record b.hunk { partial = record b.hunk.partial { in_content = false } } in hunk) w.self-is) h)
  | in-None w ↦
      let old = c.args.self.now in
      let none : old.unit ≡ None = sym c.replace.ensures.value ∙ w.in-None.is in
      let items : c.reserve.new.self.items ≡ units_so_far old.units.items old.unit = c.reserve.ensures.items ∙ ap (λ u. units_so_far old.units.items u) (sym none) in
      let room : vec_len c.reserve.new.self < vec_capacity c.reserve.new.self = omega (arith, c.in-Ok.ensures.ok) in
      rw (w.self-is, c.replace.ensures.after)
      (λ told context h. Holds-unit old c.reserve.new.self c.new.result c.end_content.new.self told context items room c.new.ensures.name c.new.ensures.hunks
      (c.end_content.ensures ∙ ap (λ (b : UnitBuilder g.row.A.Denot). let hunk : UnitHunkSoFar g.row.A.Denot = record b.hunk { partial = record b.hunk.partial { in_content = false } } in hunk) w.self-is) h)
]
