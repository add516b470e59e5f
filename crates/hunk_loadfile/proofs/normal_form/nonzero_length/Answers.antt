use Rattle.std.proofs.Common.{arith}
use Rattle.hunk_loadfile.proofs.NormalFormLemmas.{nonzero_end-le, nonzero_length-end}
use Rattle.hunk_loadfile.proofs.normal_form.nonzero_length.Goals as goal

pub returns : goal.returns
returns c = omega (arith, c.nonzero_end.ensures, c.div_ceil.ensures, nonzero_length-end c.args.content.now)

pub overflow_mul-result : goal.overflow_mul-result
overflow_mul-result c = omega (arith, c.nonzero_end.ensures, c.div_ceil.ensures, nonzero_end-le c.args.content.now)
