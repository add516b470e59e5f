-- The pieces of the object, one after another.
use Rattle.std.proofs.Common.{◌∙◌, append_assoc, ap, sym}
use Rattle.std.specs.Fmt.{decimal}
use Rattle.hunk_base.proofs.TextLemmas.{◌⨾◌, Puts-as}
use Rattle.hunk_objects.specs.declared.unit_hunk.Adds.TheVariants.{Reference}
use Rattle.json.specs.Print.{escape_byte}
use Rattle.hunk_json.specs.Document.{document}
use Rattle.hunk_json.specs.FileJson.{adds_json, name_json}
use Rattle.hunk_json.proofs.DocumentLemmas.{document-told}
use Rattle.hunk_json.proofs.FileJsonLemmas.{adds-told, natural-document}
use Rattle.hunk_json.proofs.object.write_site.Goals as goal

pub returns-in-Reference : goal.returns-in-Reference
unfolding escape_byte
returns-in-Reference g c =
    let form = c.args.form in
    let references = c.args.references.now in
    let adds = Reference c.in-Reference.index in
    let name = Puts-as (ap (λ bytes. document form (name_json bytes)) c.name_at.ensures) c.write_name.ensures in
    let offset = Puts-as (ap decimal c.from.ensures) c.put_decimal.ensures in
    let pieces = c.put.ensures ⨾ name ⨾ c.put-in-Reference.ensures ⨾ offset ⨾ c.put-in-Reference-2.ensures in
    rw c.in-Reference.is
    (Puts-as ((simp (append_assoc, natural-document)) ∙ sym (document-told form (adds_json references c.args.offset adds) (adds-told references c.args.offset adds))) pieces)
