-- The pieces of the object, one after another.
use Rattle.std.proofs.Common.{◌∙◌, append_assoc, ap, sym}
use Rattle.hunk_base.proofs.TextLemmas.{◌⨾◌, Puts-as}
use Rattle.json.specs.Print.{escape_byte}
use Rattle.hunk_json.specs.Document.{document}
use Rattle.hunk_json.specs.FileJson.{hunks_json, name_json, unit_hunk_json, unit_json}
use Rattle.hunk_json.proofs.DocumentLemmas.{document-told}
use Rattle.hunk_json.proofs.FileJsonLemmas.{unit-told}
use Rattle.hunk_json.proofs.object.write_unit.Goals as goal

pub returns : goal.returns
unfolding escape_byte
returns g c =
    let form = c.args.form in
    let offsets = c.args.offsets.now in
    let unit = c.args.unit.now in
    let hunks = Puts-as (ap (λ hunks. document form (hunks_json (unit_hunk_json form) offsets hunks)) c.hunks.ensures.value) c.write_hunks.ensures in
    let name = Puts-as (ap (λ bytes. document form (name_json bytes)) (c.bytes.ensures.value ∙ c.name.ensures)) c.write_name.ensures in
    let pieces = c.put.ensures ⨾ hunks ⨾ c.put-2.ensures ⨾ name ⨾ c.put-3.ensures in
    Puts-as ((simp append_assoc) ∙ sym (document-told form (unit_json form (offsets, unit)) (unit-told form (offsets, unit)))) pieces
