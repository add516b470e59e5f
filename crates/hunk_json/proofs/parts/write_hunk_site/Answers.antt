-- The pieces of the object, one after another.
use Rattle.std.proofs.Common.{◌∙◌, ℕ, ap, append_assoc, sym}
use Rattle.std.specs.Fmt.{decimal}
use Rattle.hunk_base.proofs.TextLemmas.{◌⨾◌, Puts-as}
use Rattle.json.specs.Print.{escape_byte}
use Rattle.hunk_json.specs.FileJson.{hunk_site_json}
use Rattle.hunk_json.proofs.DocumentLemmas.{document-told}
use Rattle.hunk_json.proofs.FileJsonLemmas.{hunk_site-told, natural-document}
use Rattle.hunk_json.proofs.parts.write_hunk_site.Goals as goal

pub returns : goal.returns
unfolding escape_byte
returns g c =
    let site : ℕ × ℕ = (c.args.offset, c.args.hunk) in
    let hunk = Puts-as (ap decimal c.from.ensures) c.put_decimal.ensures in
    let offset = Puts-as (ap decimal c.from-2.ensures) c.put_decimal-2.ensures in
    let pieces = c.put.ensures ⨾ hunk ⨾ c.put-2.ensures ⨾ offset ⨾ c.put-3.ensures in
    Puts-as ((simp (append_assoc, natural-document)) ∙ sym (document-told c.args.form (hunk_site_json site) (hunk_site-told site))) pieces
