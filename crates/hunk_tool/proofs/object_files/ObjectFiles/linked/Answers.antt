-- As many units, at the same places.
use Rattle.std.proofs.Common.{◌∙◌, List, ap, length, sym}
use Rattle.std.specs.List.{zip}
use Rattle.hunk_objects.specs.ProgramUnit.{ObjectUnit}
use Rattle.hunk_tool.specs.LinkedUnits.{linked_files}
use Rattle.hunk_tool.proofs.LinkedUnitsLemmas.{length-linked, zip-linked}
use Rattle.hunk_tool.proofs.object_files.ObjectFiles.linked.Goals as goal

pub invariant_of-result : goal.invariant_of-result
invariant_of-result g c =
    c.self.invariant ∙ sym (ap length c.in_ok-units.ensures ∙ length-linked c.args.globals c.args.strip c.self.inside.units.items)

pub returns : goal.returns
returns g c =
    let places = c.self.inside.places.items in
    ap (λ (us : List ObjectUnit). zip places us) c.in_ok-units.ensures
    ∙ zip-linked c.args.globals c.args.strip places c.self.inside.units.items
    ∙ ap (linked_files c.args.globals c.args.strip) c.self.view_is
