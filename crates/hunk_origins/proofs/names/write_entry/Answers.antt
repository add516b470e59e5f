-- The pieces of the line, one after another.
use Rattle.std.proofs.Common.{◌∙◌, ap}
use Rattle.std.specs.Fmt.{decimal}
use Rattle.hunk_base.specs.QuotedName.{quoted}
use Rattle.hunk_base.proofs.TextLemmas.{◌⨾◌, Puts-as}
use Rattle.hunk_origins.specs.Names.{Entry, role_letter, role_value, unit_text, value_text}
use Rattle.hunk_origins.proofs.names.write_entry.Goals as goal

pub returns : goal.returns
returns g c =
    let is = c.entry.view_is in
    let value = Puts-as (ap value_text c.value.ensures ∙ ap (λ (e : Entry). value_text (role_value e.role)) is) c.write_value.ensures in
    let letter = Puts-as (c.letter.ensures ∙ ap (λ (e : Entry). role_letter e.role) is) c.put-2.ensures in
    let name = Puts-as (ap (λ (e : Entry). quoted e.name) is) c.put_quoted.ensures in
    let unit = Puts-as (ap (λ (e : Entry). unit_text e.unit) is) c.write_unit.ensures in
    let hunk = Puts-as (ap (λ (e : Entry). decimal e.hunk) is) c.put_decimal.ensures in
    value ⨾ c.put.ensures ⨾ letter ⨾ c.put-3.ensures ⨾ name ⨾ unit ⨾ c.put-4.ensures ⨾ hunk ⨾ c.end_line.ensures
