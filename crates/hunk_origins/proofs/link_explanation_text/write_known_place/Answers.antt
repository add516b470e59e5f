-- The pieces of the line, one after another.
use Rattle.std.proofs.Common.{◌∙◌, ap, map}
use Rattle.std.specs.Fmt.{decimal}
use Rattle.hunk_base.proofs.TextLemmas.{◌⨾◌, Puts-as}
use Rattle.hunk_origins.specs.LinkExplanation.{Place}
use Rattle.hunk_origins.specs.OriginText.{origin_text}
use Rattle.hunk_origins.proofs.link_explanation_text.write_known_place.Goals as goal

pub returns : goal.returns
returns g c =
    let is = c.place.view_is in
    let unit = Puts-as (ap (λ (p : Place). decimal p.unit) is) c.put_decimal.ensures in
    let hunk = Puts-as (ap decimal c.from.ensures ∙ ap (λ (p : Place). decimal p.hunk) is) c.put_decimal-2.ensures in
    let origin = Puts-as (ap (λ (p : Place). origin_text (map g.N.FileName.bytes c.args.names.now) p.origin) is) c.write_origin.ensures in
    c.put.ensures ⨾ unit ⨾ c.put-2.ensures ⨾ hunk ⨾ c.put-3.ensures ⨾ origin ⨾ c.end_line.ensures
