-- The pieces of the object, one after another.
use Rattle.std.proofs.Common.{◌∙◌, append_assoc, sym}
use Rattle.hunk_base.proofs.TextLemmas.{◌⨾◌, Puts-as}
use Rattle.json.specs.Print.{escape_byte}
use Rattle.hunk_json.specs.FileJson.{object_json}
use Rattle.hunk_json.proofs.DocumentLemmas.{document-told}
use Rattle.hunk_json.proofs.FileJsonLemmas.{kind_object-document, object-told}
use Rattle.hunk_json.proofs.object.write_object_json.Goals as goal

pub returns : goal.returns
unfolding escape_byte
returns g c =
    let form = c.args.form in
    let units = c.args.units.now in
    let offsets = c.args.offsets.now in
    let pieces = c.put.ensures ⨾ c.write_units.ensures ⨾ c.put-2.ensures in
    Puts-as ((simp (append_assoc, kind_object-document)) ∙ sym (document-told form (object_json form offsets units) (object-told form offsets units))) pieces
