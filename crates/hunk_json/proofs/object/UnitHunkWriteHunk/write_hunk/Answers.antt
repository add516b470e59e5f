-- The pieces of the object, one after another.
use Rattle.std.proofs.Common.{◌∙◌, append_assoc, ap, sym}
use Rattle.std.specs.Fmt.{decimal}
use Rattle.hunk_base.proofs.TextLemmas.{◌⨾◌, Puts-as}
use Rattle.json.specs.Print.{escape_byte}
use Rattle.hunk_json.specs.Document.{document, further_members}
use Rattle.hunk_json.specs.FileJson.{content_members, debug_json, definition_json, kind_json, listed, memory_json, name_json, symbol_json, unit_hunk_json}
use Rattle.hunk_json.proofs.DocumentLemmas.{document-told, told-utf8}
use Rattle.hunk_json.proofs.FileJsonLemmas.{content-members, debugs-listed, natural-document, unit_hunk-told}
use Rattle.hunk_json.proofs.object.UnitHunkWriteHunk.write_hunk.Goals as goal

pub returns-clause-puts : goal.returns-clause-puts
unfolding escape_byte
returns-clause-puts g c =
    let form = c.args.form in
    let hunk = c.args.self.now in
    let debugs = Puts-as (ap (document form) (debugs-listed c.debugs.result.now ∙ ap (listed debug_json) c.debugs.ensures)) c.write_list.ensures in
    let definitions = Puts-as (ap (λ named. document form (listed definition_json named)) c.definitions.ensures) c.write_list-2.ensures in
    let kind = Puts-as (ap (document form) (c.kind_word.ensures ∙ ap kind_json c.kind.ensures)) c.write_string.ensures in
    let memory = Puts-as (ap (document form) (c.memory_word.ensures ∙ ap memory_json c.memory.ensures)) c.write_string-2.ensures in
    let name = Puts-as (ap (λ bytes. document form (name_json bytes)) (c.bytes.ensures.value ∙ c.name.ensures)) c.write_name.ensures in
    let size = Puts-as (ap decimal (c.from.ensures ∙ c.size.ensures)) c.put_decimal.ensures in
    let content = Puts-as (ap (λ stored. further_members form (content_members form c.args.offset stored)) c.content.ensures.value) c.write_content.ensures in
    let symbols = Puts-as (ap (λ named. document form (listed symbol_json named)) c.symbols.ensures.value) c.write_list-3.ensures in
    let front = c.put.ensures ⨾ debugs ⨾ c.put-2.ensures ⨾ definitions ⨾ c.put-3.ensures ⨾ kind ⨾ c.put-4.ensures ⨾ memory ⨾ c.put-5.ensures ⨾ name in
    let pieces = front ⨾ c.put-6.ensures ⨾ c.write_sites.ensures ⨾ c.put-7.ensures ⨾ size ⨾ content ⨾ c.put-8.ensures ⨾ symbols ⨾ c.put-9.ensures in
    Puts-as ((simp (append_assoc, natural-document, content-members)) ∙ sym (document-told form (unit_hunk_json form c.args.offset hunk) (unit_hunk-told form c.args.offset hunk))) pieces

pub returns-clause-utf8 : goal.returns-clause-utf8
returns-clause-utf8 g c = told-utf8 (unit_hunk_json c.args.form c.args.offset c.args.self.now) (unit_hunk-told c.args.form c.args.offset c.args.self.now)
