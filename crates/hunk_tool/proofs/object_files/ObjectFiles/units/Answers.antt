-- As many as places.
use Rattle.std.proofs.Common.{◌∙◌, ap, sym}
use Rattle.std.proofs.lemmas.Slice.Zip.{seconds-zip}
use Rattle.hunk_tool.specs.ObjectFiles.{units_of}
use Rattle.hunk_tool.proofs.object_files.ObjectFiles.units.Goals as goal

pub returns : goal.returns
returns g c =
    c.deref.ensures.value ∙ sym (seconds-zip c.self.inside.places.items c.self.inside.units.items (sym c.self.invariant)) ∙ ap units_of c.self.view_is
