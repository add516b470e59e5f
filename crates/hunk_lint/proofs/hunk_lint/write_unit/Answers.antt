-- The line that there are no hunks, and those about the hunks.
use Rattle.std.proofs.Common.{ℕ, List, ap, length}
use Rattle.std.specs.List.{enumerate_from, flat_map}
use Rattle.hunk_base.proofs.TextLemmas.{◌⨾◌, Puts-as}
use Rattle.hunk_objects.specs.UnitHunk.{ObjectHunk}
use Rattle.hunk_lint.specs.HunkLint.{hunkless_lints, unit_hunk_lints}
use Rattle.hunk_lint.proofs.hunk_lint.write_unit.Goals as goal

abbrev hunkless_of : ℕ → List ObjectHunk → List ℕ
hunkless_of unit hunks = hunkless_lints unit (length hunks)

abbrev lines_of : ℕ → List ObjectHunk → List ℕ
lines_of unit hunks = flat_map (unit_hunk_lints hunks unit) (enumerate_from 0 hunks)

pub returns : goal.returns
returns g c =
    Puts-as (ap (hunkless_of c.args.number) c.hunks-hunks.ensures.value) c.write_hunkless.ensures
    ⨾ Puts-as (ap (lines_of c.args.number) c.hunks-hunks.ensures.value) c.write_unit_hunks.ensures
