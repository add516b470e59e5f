use Rattle.std.proofs.Common.{sym, subst}
use Rattle.hunk_base.specs.OpenName.{Opens}
use Rattle.hunk_objects.specs.OpenUnit.{UnitSoFar}
use Rattle.hunk_objects.proofs.open_unit.OpenUnit.add_name_word.Goals as goal

pub returns-clause-takes : goal.returns-clause-takes
returns-clause-takes g c = λ words opens. c.push.ensures.takes words (subst (λ (u : UnitSoFar g.row.A.Denot). Opens u.name words) (sym c.self.view_is) opens)

pub returns-clause-refuses : goal.returns-clause-refuses
returns-clause-refuses g c = λ words opens. c.push.ensures.refuses words (subst (λ (u : UnitSoFar g.row.A.Denot). Opens u.name words) (sym c.self.view_is) opens)
