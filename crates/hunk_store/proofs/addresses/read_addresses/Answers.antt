-- A part of the bytes that were read is no number, or there are too many addresses or bytes.
use Rattle.std.proofs.Common.{refl}
use Rattle.hunk_store.proofs.addresses.read_addresses.Goals as goal

pub returns-in-Err-Refused-BadNumber-clause-err : goal.returns-in-Err-Refused-BadNumber-clause-err
returns-in-Err-Refused-BadNumber-clause-err g c =
    let found = c.in-Err-Refused-BadNumber in
    (refl, rw (found.field-0-is, found.field-0-0-is) at found.ensures.refused)

pub returns-in-Err-TooMany-clause-err : goal.returns-in-Err-TooMany-clause-err
returns-in-Err-TooMany-clause-err g c = (refl, rw c.in-Err-TooMany.field-0-is at c.in-Err-TooMany.ensures.refused)

pub returns-in-Err-TooLong-clause-err : goal.returns-in-Err-TooLong-clause-err
returns-in-Err-TooLong-clause-err g c = (refl, rw c.in-Err-TooLong.field-0-is at c.in-Err-TooLong.ensures.refused)
