-- As many as units.
use Rattle.std.proofs.Common.{◌∙◌, ap, map, sym}
use Rattle.std.proofs.lemmas.Slice.Zip.{firsts-zip}
use Rattle.hunk_tool.specs.ObjectFiles.{FileUnit}
use Rattle.hunk_tool.specs.declared.object_files.UnitPlace.{UnitPlace}
use Rattle.hunk_tool.proofs.object_files.ObjectFiles.places.Goals as goal

pub returns : goal.returns
returns g c =
    let place : FileUnit → UnitPlace = λ unit. unit.0 in
    c.deref.ensures.value ∙ sym (firsts-zip c.self.inside.places.items c.self.inside.units.items (sym c.self.invariant)) ∙ ap (map place) c.self.view_is
