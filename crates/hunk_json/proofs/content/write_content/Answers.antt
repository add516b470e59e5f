-- The member is there in these forms.
use Rattle.std.proofs.Common.{ap, inl, inr, sym}
use Rattle.std.specs.Fmt.{decimal}
use Rattle.hunk_base.proofs.LongwordsByteLemmas.{are-bytes}
use Rattle.hunk_base.proofs.TextLemmas.{◌⨾◌, Puts-as}
use Rattle.hunk_json.specs.FileJson.{content_members}
use Rattle.hunk_json.proofs.ContentLemmas.{content-further}
use Rattle.hunk_json.proofs.content.write_content.Goals as goal

pub returns-in-WithContent : goal.returns-in-WithContent
returns-in-WithContent g c =
    let form = c.args.form in
    let content = c.args.content.now in
    let typed = are-bytes content c.type_inv.content in
    let offset = Puts-as (ap decimal c.from.ensures) c.put_decimal.ensures in
    let pieces = c.put.ensures ⨾ c.write_base64.ensures ⨾ c.put-in-WithContent.ensures ⨾ offset in
    elim c.in-WithContent.is [
      | inl is ↦ Puts-as (sym (content-further form c.args.offset content typed (ap (λ f. content_members f c.args.offset content) is))) pieces
      | inr is ↦ Puts-as (sym (content-further form c.args.offset content typed (ap (λ f. content_members f c.args.offset content) is))) pieces
    ]
