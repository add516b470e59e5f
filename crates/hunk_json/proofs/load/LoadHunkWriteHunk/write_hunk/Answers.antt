-- The pieces of the object, one after another.
use Rattle.std.proofs.Common.{◌≡◌, ◌∙◌, ◌/◌, append_assoc, ap, arith, length, sym}
use Rattle.std.specs.Fmt.{decimal}
use Rattle.hunk_base.proofs.TextLemmas.{◌⨾◌, Puts-as}
use Rattle.json.specs.Print.{escape_byte}
use Rattle.hunk_loadfile.specs.LoadHunk.{FileHunk}
use Rattle.hunk_words.specs.DebugInfo.{lists_of}
use Rattle.hunk_json.specs.Document.{document, further_members}
use Rattle.hunk_json.specs.FileJson.{content_members, debug_json, hunk_site_json, kind_json, listed, load_hunk_json, memory_json, symbol_json}
use Rattle.hunk_json.proofs.DocumentLemmas.{document-told, told-utf8}
use Rattle.hunk_json.proofs.FileJsonLemmas.{content-members, debugs-listed, load_hunk-told, natural-document}
use Rattle.hunk_json.proofs.load.LoadHunkWriteHunk.write_hunk.Goals as goal

pub returns-clause-puts : goal.returns-clause-puts
unfolding escape_byte
returns-clause-puts g c =
    let form = c.args.form in
    let hunk = c.args.self.now in
    let is = c.self.view_is in
    let bytes : c.len.result ≡ length c.self.inside.content.items = omega (arith, c.len.ensures, c.self.inside.content.ok.0) in
    let debugs = Puts-as (ap (document form) (debugs-listed c.deref.result.now ∙ ap (λ vecs. listed debug_json (lists_of vecs)) c.deref.ensures.value ∙ ap (λ (h : FileHunk). listed debug_json h.debugs) is)) c.write_list.ensures in
    let kind = Puts-as (ap (document form) (c.kind_word.ensures ∙ ap (λ (h : FileHunk). kind_json h.kind) is)) c.write_string.ensures in
    let memory = Puts-as (ap (document form) (c.memory_word.ensures ∙ ap (λ (h : FileHunk). memory_json h.memory) is)) c.write_string-2.ensures in
    let sites = Puts-as (ap (λ (h : FileHunk). document form (listed hunk_site_json h.sites.entries)) is) c.write_sites.ensures in
    let size = Puts-as (ap decimal c.from.ensures ∙ ap (λ (h : FileHunk). decimal h.size) is) c.put_decimal.ensures in
    let stored = Puts-as (ap (λ count. decimal (count / 4)) bytes ∙ ap (λ (h : FileHunk). decimal (length h.content / 4)) is) c.put_decimal-2.ensures in
    let content = Puts-as (ap (λ stored. further_members form (content_members form c.args.offset stored)) (c.deref-2.ensures.value ∙ ap (λ (h : FileHunk). h.content) is)) c.write_content.ensures in
    let symbols = Puts-as (ap (λ named. document form (listed symbol_json named)) (c.deref-3.ensures.value ∙ ap (λ (h : FileHunk). h.symbols) is)) c.write_list-2.ensures in
    let front = c.put.ensures ⨾ debugs ⨾ c.put-2.ensures ⨾ kind ⨾ c.put-3.ensures ⨾ memory ⨾ c.put-4.ensures ⨾ sites in
    let pieces = front ⨾ c.put-5.ensures ⨾ size ⨾ c.put-6.ensures ⨾ stored ⨾ content ⨾ c.put-7.ensures ⨾ symbols ⨾ c.put-8.ensures in
    Puts-as ((simp (append_assoc, natural-document, content-members)) ∙ sym (document-told form (load_hunk_json form c.args.offset hunk) (load_hunk-told form c.args.offset hunk))) pieces

pub returns-clause-utf8 : goal.returns-clause-utf8
returns-clause-utf8 g c = told-utf8 (load_hunk_json c.args.form c.args.offset c.args.self.now) (load_hunk-told c.args.form c.args.offset c.args.self.now)
