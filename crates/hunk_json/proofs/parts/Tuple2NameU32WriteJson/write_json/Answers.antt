-- The pieces of the object, one after another.
use Rattle.std.proofs.Common.{◌∙◌, ℕ, List, append_assoc, ap, sym}
use Rattle.std.specs.Fmt.{decimal}
use Rattle.hunk_base.proofs.TextLemmas.{◌⨾◌, Puts-as}
use Rattle.json.specs.Print.{escape_byte}
use Rattle.hunk_json.specs.Document.{document}
use Rattle.hunk_json.specs.FileJson.{name_json, symbol_json}
use Rattle.hunk_json.proofs.DocumentLemmas.{document-told, told-utf8}
use Rattle.hunk_json.proofs.FileJsonLemmas.{natural-document, symbol-told}
use Rattle.hunk_json.proofs.parts.Tuple2NameU32WriteJson.write_json.Goals as goal

pub returns-clause-puts : goal.returns-clause-puts
unfolding escape_byte
returns-clause-puts g c =
    let form = c.args.form in
    let symbol : List ℕ × ℕ = c.args.self.now in
    let name = Puts-as (ap (λ bytes. document form (name_json bytes)) c.bytes.ensures.value) c.write_name.ensures in
    let value = Puts-as (ap decimal c.from.ensures) c.put_decimal.ensures in
    let pieces = c.put.ensures ⨾ name ⨾ c.put-2.ensures ⨾ value ⨾ c.put-3.ensures in
    Puts-as ((simp (append_assoc, natural-document)) ∙ sym (document-told form (symbol_json symbol) (symbol-told symbol))) pieces

pub returns-clause-utf8 : goal.returns-clause-utf8
returns-clause-utf8 g c = told-utf8 (symbol_json c.args.self.now) (symbol-told c.args.self.now)
