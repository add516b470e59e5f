-- The pieces, one after another.
use Rattle.std.proofs.Common.{ap}
use Rattle.hunk_base.specs.QuotedName.{quoted}
use Rattle.hunk_base.proofs.TextLemmas.{◌⨾◌, Puts-as}
use Rattle.hunk_text.proofs.difference_text.write_symbols.Goals as goal

pub returns-in-Some-None : goal.returns-in-Some-None
returns-in-Some-None g c =
    let name = Puts-as (ap quoted c.bytes.ensures.value) c.put_quoted.ensures in
    rw (c.in-Some-None.is-0, c.in-Some-None.is-1) (name ⨾ c.put.ensures ⨾ c.put_longword.ensures ⨾ c.put-in-Some-None.ensures)

pub returns-in-None-Some : goal.returns-in-None-Some
returns-in-None-Some g c =
    let name = Puts-as (ap quoted c.bytes-in-None-Some.ensures.value) c.put_quoted-in-None-Some.ensures in
    rw (c.in-None-Some.is-0, c.in-None-Some.is-1) (name ⨾ c.put-in-None-Some.ensures ⨾ c.put_longword-in-None-Some.ensures)
