-- Each reason, one piece after another.
use Rattle.std.proofs.Common.{◌≡◌, ◌++◌, ℕ, List, append_assoc, codes, ap}
use Rattle.std.specs.Fmt.{decimal}
use Rattle.hunk_base.specs.QuotedName.{quoted}
use Rattle.hunk_base.proofs.TextLemmas.{◌⨾◌, Puts-as}
use Rattle.hunk_tool.specs.FaultLine.{hunk_of_unit}
use Rattle.hunk_tool.proofs.link_line.write_link_refusal.Goals as goal

hunk-then : (hunk a number b : List ℕ) → hunk ++ (a ++ number ++ b) ≡ hunk ++ a ++ number ++ b
hunk-then hunk a number b = simp append_assoc

pub returns-in-TooManyHunks : goal.returns-in-TooManyHunks
returns-in-TooManyHunks g c = rw c.in-TooManyHunks.is c.put-in-TooManyHunks.ensures

pub returns-in-NoSuchHunk : goal.returns-in-NoSuchHunk
returns-in-NoSuchHunk g c =
    let told = Puts-as (ap (λ n. codes "no hunk " ++ decimal n ++ codes " in its unit") c.from.ensures) c.write_number.ensures in
    rw c.in-NoSuchHunk.is (Puts-as (hunk-then (hunk_of_unit c.in-NoSuchHunk.unit c.in-NoSuchHunk.hunk) (codes "no hunk ") (decimal c.in-NoSuchHunk.target) (codes " in its unit")) (c.write_hunk_of_unit.ensures ⨾ told))

pub returns-in-DuplicateName : goal.returns-in-DuplicateName
returns-in-DuplicateName g c =
    rw c.in-DuplicateName.is
    (c.write_hunk_of_unit-in-DuplicateName.ensures ⨾ Puts-as (ap quoted c.bytes.ensures.value) c.put_quoted.ensures ⨾ c.put-in-DuplicateName.ensures)
