-- The address, or that there is none.
use Rattle.std.proofs.Common.{ap, length, refl, sym}
use Rattle.std.proofs.lemmas.Option.{slice_get_past, slice_get_read}
use Rattle.hunk_base.proofs.TextLemmas.{◌⨾◌, Puts-as}
use Rattle.hunk_addresses.specs.PlacesText.{told_address}
use Rattle.hunk_addresses.proofs.places_text.write_address.Goals as goal

pub returns-in-Some : goal.returns-in-Some
returns-in-Some g c =
    let found = c.in-Some.ensures.lookup in
    Puts-as (ap told_address (sym (slice_get_read c.args.bases.now (length c.args.bases.now) c.args.number c.in-Some.base.now refl found.3.0 found.1))) (c.put.ensures ⨾ c.put_longword.ensures)

pub returns-in-None : goal.returns-in-None
returns-in-None g c = Puts-as (ap told_address (sym (slice_get_past c.args.bases.now c.args.number c.in-None.ensures.lookup.3))) c.put-in-None.ensures
