-- The text of either difference, and the end of its line.
use Rattle.std.proofs.Common.{ap}
use Rattle.std.specs.Prelude.{option_copied}
use Rattle.hunk_base.proofs.TextLemmas.{◌⨾◌, Puts-as}
use Rattle.hunk_text.specs.DifferenceText.{symbols_text}
use Rattle.hunk_text.proofs.difference_text.write_info_difference.Goals.{in-Symbol, in-Debug}
use Rattle.hunk_text.proofs.difference_text.write_info_difference.Goals as goal

pub returns : goal.returns
returns g c =
    elim c.match-difference.branch [
      | in-Symbol w ↦
          rw w.in-Symbol.is
          (w.write_index.ensures ⨾ w.put.ensures ⨾ Puts-as (ap (λ symbol. symbols_text symbol (option_copied c.args.second)) w.symbol_at.ensures) w.write_symbols.ensures
          ⨾ (rw w.text-is at c.end_line.ensures))
      | in-Debug w ↦ rw w.in-Debug.is (w.write_index-in-Debug.ensures ⨾ (rw w.text-is at c.end_line.ensures))
    ]
