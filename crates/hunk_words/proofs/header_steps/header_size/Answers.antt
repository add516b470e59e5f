-- The sizes are read.
use Rattle.std.proofs.Common.{◌<◌, ◌≤◌, arith}
use Rattle.hunk_words.specs.Kinds.{low, bits}
use Rattle.hunk_words.proofs.StateLemmas.{StepsFrom-header}
use Rattle.hunk_words.proofs.header_steps.header_size.Goals as goal

pub returns-then-left-eq0 : goal.returns-then-left-eq0
returns-then-left-eq0 c =
    let state = c.args.state in
    let few : bits c.args.number < 3 = omega (arith, c.memory_bits-bits.ensures) in
    let fits : low c.args.number ≤ c.args.room = omega (arith, c.low-size.ensures) in
    rw (c.if-left-eq0.true, c.then.ensures, c.low-size.ensures, c.memory_bits-bits.ensures)
    (StepsFrom-header state.file state.last state.hunk state.limit c.args.room c.args.number few fits)
