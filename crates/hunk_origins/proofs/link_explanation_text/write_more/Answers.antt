-- One or more.
use Rattle.std.proofs.Common.{◌≡◌, ◌<◌, ◌++◌, ℕ, zero, suc, codes, refl, arith}
use Rattle.std.specs.Fmt.{decimal}
use Rattle.hunk_base.specs.Text.{line}
use Rattle.hunk_base.proofs.TextLemmas.{◌⨾◌, Puts-as}
use Rattle.hunk_origins.specs.LinkExplanation.{more_line}
use Rattle.hunk_origins.proofs.link_explanation_text.write_more.Goals as goal

some_more : (count : ℕ) → 0 < count → line (codes "  and " ++ decimal count ++ codes " more") ≡ more_line count
some_more zero some = absurd (omega arith)
some_more (suc count) some = refl

pub returns-then-count-gt0 : goal.returns-then-count-gt0
returns-then-count-gt0 g c =
    Puts-as (some_more c.args.count c.if-count-gt0.true) (c.put.ensures ⨾ c.put_decimal.ensures ⨾ c.put-then-count-gt0.ensures ⨾ c.end_line.ensures)
