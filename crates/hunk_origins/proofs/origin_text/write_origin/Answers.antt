-- The file, the unit and the hunk.
use Rattle.std.proofs.Common.{◌∙◌, [], ap, map}
use Rattle.std.specs.Prelude.{slice_index_or}
use Rattle.std.specs.Fmt.{decimal}
use Rattle.hunk_base.specs.QuotedName.{quoted}
use Rattle.hunk_base.proofs.TextLemmas.{◌⨾◌, Puts-as}
use Rattle.hunk_origins.specs.Origins.{Origin}
use Rattle.hunk_tool.specs.ShownName.{shown_name}
use Rattle.hunk_origins.proofs.origin_text.write_origin.Goals as goal

pub returns : goal.returns
returns g c =
    let names = map g.N.FileName.bytes c.args.names.now in
    let is = c.origin.view_is in
    let file = Puts-as (ap shown_name (c.name_at.ensures ∙ ap (λ (o : Origin). slice_index_or names o.unit.0.file []) is)) c.write_name.ensures in
    let unit = Puts-as (ap (λ (o : Origin). decimal o.unit.0.number) is) c.put_decimal.ensures in
    let name = Puts-as (ap quoted (c.bytes.ensures.value ∙ c.name.ensures ∙ ap (λ (o : Origin). o.unit.1.name) is)) c.put_quoted.ensures in
    let number = Puts-as (ap (λ (o : Origin). decimal o.number) is) c.put_decimal-2.ensures in
    let own = Puts-as (ap quoted (c.bytes-2.ensures.value ∙ c.name-2.ensures ∙ ap (λ (o : Origin). o.hunk.name) is)) c.put_quoted-2.ensures in
    file ⨾ c.put.ensures ⨾ unit ⨾ c.put-2.ensures ⨾ name ⨾ c.put-3.ensures ⨾ number ⨾ c.put-4.ensures ⨾ own
