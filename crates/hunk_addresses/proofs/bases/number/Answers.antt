use Rattle.std.proofs.Common.{sym, ◌∙◌}
use Rattle.hunk_addresses.proofs.BasesLemmas.{result_ok-number_of}
use Rattle.hunk_addresses.proofs.bases.number.Goals as goal

pub returns-then-is_digits : goal.returns-then-is_digits
returns-then-is_digits c =
    c.ok.ensures.value ∙ result_ok-number_of c.args.part.now c.from_str_radix.result c.if-part-ge1.true c.if-part-le8.true (sym c.if-is_digits.ensures) c.from_str_radix.ensures.value
