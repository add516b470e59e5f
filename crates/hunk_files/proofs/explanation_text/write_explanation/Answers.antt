-- The pieces of the lines, one after another.
use Rattle.std.proofs.Common.{◌∙◌, ap}
use Rattle.std.specs.Fmt.{decimal}
use Rattle.hunk_base.proofs.TextLemmas.{◌⨾◌, Puts-as}
use Rattle.hunk_files.proofs.explanation_text.write_explanation.Goals as goal

pub returns : goal.returns
returns g c =
    let offset = Puts-as (ap decimal c.from.ensures) c.put_decimal.ensures in
    let side = Puts-as (c.as_bytes.ensures.value ∙ c.side_text.ensures) c.put-5.ensures in
    let block = Puts-as (c.as_bytes-2.ensures.value ∙ c.block_name.ensures) c.put-6.ensures in
    let due = Puts-as (c.as_bytes-3.ensures.value ∙ c.due_text.ensures) c.put-8.ensures in
    let kind = Puts-as (c.as_bytes-4.ensures.value ∙ c.kind_text.ensures) c.put-9.ensures in
    c.put.ensures ⨾ offset ⨾ c.put-2.ensures ⨾ c.put_longword.ensures ⨾ c.put-3.ensures ⨾ c.write_found.ensures
    ⨾ c.put-4.ensures ⨾ c.write_unit.ensures ⨾ c.write_hunk.ensures ⨾ side ⨾ block ⨾ c.put-7.ensures ⨾ due ⨾ c.end_line.ensures ⨾ kind
