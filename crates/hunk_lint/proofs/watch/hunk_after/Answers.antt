-- A block may end the hunk.
use Rattle.std.proofs.Common.{◌∷◌, ◌∙◌, ap, sym, arith}
use Rattle.hunk_files.specs.Path.{hunks_ended, types_of}
use Rattle.hunk_lint.proofs.WatchLemmas.{hunks-few}
use Rattle.hunk_lint.proofs.watch.hunk_after.Goals as goal

pub returns-then-is_type : goal.returns-then-is_type
returns-then-is_type c = λ before few hunk.
    let is = sym c.if-is_type.ensures in
    rw (is) (c.after_block.ensures (types_of before) (omega (arith, few, hunk, hunks-few before)) hunk ∙ ap (λ block. hunks_ended (block ∷ types_of before)) c.of_longword.ensures)
