-- The entry of the name is inserted.
use Rattle.std.proofs.Common.{◌∙◌, ap, ap₂}
use Rattle.indexmap.specs.IndexMap.{insert_entry}
use Rattle.hunk_origins.specs.DefinedNames.{is_name}
use Rattle.hunk_origins.specs.Undefined.{Use, Uses, look_up, next_use}
use Rattle.hunk_origins.proofs.undefined.Uses.add.Goals as goal
use Rattle.hunk_origins.proofs.undefined.Uses.add.Goals.{in-Ok, in-Err}

pub returns : goal.returns
returns g c =
    elim c.match-insert.branch [
      | in-Ok w ↦ rw w.result-is (
          w.in-Ok.ensures.entries ∙ ap₂ (λ (uses : Uses) (used : Use). insert_entry is_name uses c.new.result used) c.self.view_is c.in_ok-used.ensures
          ∙ ap (λ name. insert_entry is_name c.args.self.now name (next_use (look_up c.args.self.now c.args.name.now) c.args.origin.now)) c.new.ensures)
      | in-Err w ↦ rw w.result-is tt
    ]
