-- What is told of the name so far.
use Rattle.std.proofs.Common.{◌≡◌, ◌∙◌, ℕ, suc, None, Some, ap, ap₂, sym, arith}
use Rattle.hunk_origins.specs.Origins.{Origin}
use Rattle.hunk_origins.specs.Undefined.{Use, Uses, look_up, next_use}
use Rattle.hunk_origins.proofs.undefined.Uses.next_use.Goals as goal

pub returns-in-Some-checked_add : goal.returns-in-Some-checked_add
returns-in-Some-checked_add g c =
    let name = c.args.name.now in
    let origin = c.args.origin.now in
    let found : look_up c.args.self.now name ≡ Some c.in-Some.used.now =
    sym (ap (λ (uses : Uses). look_up uses name) c.self.view_is) ∙ ap (look_up c.self.inside.entries.entries) (sym c.new.ensures) ∙ sym c.in-Some.ensures.value in
    let counted : c.in-Some-checked_add.count ≡ suc c.used.inside.count = omega (arith, c.in-Some-checked_add.ensures) in
    ap₂ (λ (o : Origin) (n : ℕ). record { origin = o; count = n }) c.copied.ensures counted
    ∙ ap (λ (used : Use). next_use (Some used) origin) c.used.view_is ∙ ap (λ found_there. next_use found_there origin) (sym found)

pub returns-in-None : goal.returns-in-None
returns-in-None g c =
    let name = c.args.name.now in
    let found : look_up c.args.self.now name ≡ None =
    sym (ap (λ (uses : Uses). look_up uses name) c.self.view_is) ∙ ap (look_up c.self.inside.entries.entries) (sym c.new.ensures) ∙ sym c.in-None.ensures.value in
    ap (λ (o : Origin). next_use None o) c.copied-in-None.ensures ∙ ap (λ found_there. next_use found_there c.args.origin.now) (sym found)
