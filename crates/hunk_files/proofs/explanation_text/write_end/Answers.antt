-- Some bytes of a longword.
use Rattle.std.proofs.Common.{◌≡◌, ◌<◌, ◌++◌, ℕ, zero, suc, codes, ap, refl, arith}
use Rattle.std.specs.Fmt.{decimal}
use Rattle.hunk_base.proofs.TextLemmas.{◌⨾◌, Puts-as}
use Rattle.hunk_files.specs.ExplanationText.{ended_after}
use Rattle.hunk_files.proofs.explanation_text.write_end.Goals as goal

some_bytes : (count : ℕ) → 0 < count → codes ", after " ++ decimal count ++ codes " of the 4 bytes of a longword" ≡ ended_after count
some_bytes zero some = absurd (omega arith)
some_bytes (suc count) some = refl

pub returns-then-count-gt0 : goal.returns-then-count-gt0
returns-then-count-gt0 g c =
    let count = Puts-as (ap decimal c.from.ensures) c.put_decimal.ensures in
    c.put.ensures ⨾ Puts-as (some_bytes c.args.count c.if-count-gt0.true) (c.put-then-count-gt0.ensures ⨾ count ⨾ c.put-then-count-gt0-2.ensures)
