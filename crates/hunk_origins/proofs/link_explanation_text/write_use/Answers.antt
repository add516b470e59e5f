-- The pieces of the line, one after another.
use Rattle.std.proofs.Common.{ap, map}
use Rattle.std.specs.Fmt.{decimal}
use Rattle.hunk_base.proofs.TextLemmas.{◌⨾◌, Puts-as}
use Rattle.hunk_origins.specs.OriginText.{origin_text}
use Rattle.hunk_origins.specs.Undefined.{Use}
use Rattle.hunk_origins.proofs.link_explanation_text.write_use.Goals as goal

pub returns : goal.returns
returns g c =
    let is = c.used.view_is in
    let count = Puts-as (ap (λ (u : Use). decimal u.count) is) c.put_decimal.ensures in
    let origin = Puts-as (ap (λ (u : Use). origin_text (map g.N.FileName.bytes c.args.names.now) u.origin) is) c.write_origin.ensures in
    c.put.ensures ⨾ c.put_quoted.ensures ⨾ c.put-2.ensures ⨾ count ⨾ c.put-3.ensures ⨾ origin ⨾ c.end_line.ensures
