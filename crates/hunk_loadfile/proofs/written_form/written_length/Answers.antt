-- Every byte of the text was taken and counted.
use Rattle.std.proofs.Common.{◌≡◌, ◌||◌, Bool, true, false, [], refl, sym, arith}
use Rattle.hunk_loadfile.proofs.written_form.written_length.Goals as goal

going : (stopped : Bool) → false ≡ (stopped || false) → stopped ≡ false
going true fails = sym fails
going false fails = refl

pub returns-in-Ok : goal.returns-in-Ok
returns-in-Ok g c =
    let holds = c.in-Ok.ensures.wrote.adds _ [] c.new-text.ensures.empty in
    omega (arith, c.written-count.ensures, holds.counted, holds.whole (going _ holds.fails), c.in-Ok.ensures.short)
