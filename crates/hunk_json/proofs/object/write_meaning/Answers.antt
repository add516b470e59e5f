-- The pieces of the object, one after another.
use Rattle.std.proofs.Common.{◌∙◌, append_assoc, ap, sym}
use Rattle.std.specs.Fmt.{decimal}
use Rattle.hunk_base.proofs.TextLemmas.{◌⨾◌, Puts-as}
use Rattle.json.specs.Print.{escape_byte}
use Rattle.hunk_json.specs.FileJson.{stands_for_json}
use Rattle.hunk_json.proofs.DocumentLemmas.{document-told}
use Rattle.hunk_json.proofs.FileJsonLemmas.{boolean-document, natural-document, stands_for-told}
use Rattle.hunk_json.proofs.object.write_meaning.Goals as goal

pub returns : goal.returns
unfolding escape_byte
returns g c =
    let form = c.args.form in
    let name = c.args.name.now in
    let absolute = Puts-as (c.boolean_word.ensures ∙ sym (boolean-document form c.args.absolute)) c.put-2.ensures in
    let value = Puts-as (ap decimal c.from.ensures) c.put_decimal.ensures in
    let pieces = c.put.ensures ⨾ absolute ⨾ c.put-3.ensures ⨾ c.write_name.ensures ⨾ c.put-4.ensures ⨾ value ⨾ c.put-5.ensures in
    Puts-as ((simp (append_assoc, natural-document)) ∙ sym (document-told form (stands_for_json name c.args.absolute c.args.value) (stands_for-told name c.args.absolute c.args.value))) pieces
