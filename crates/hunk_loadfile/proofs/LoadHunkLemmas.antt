-- The content of hunks.
use Rattle.std.proofs.Common.{ℕ, ◌*◌, ◌≤◌, arith}
use Rattle.hunk_words.specs.declared.kinds.HunkKind.{HunkKind}
use Rattle.hunk_words.specs.declared.kinds.HunkKind.TheVariants.{Code, Data, Bss}
use Rattle.hunk_loadfile.specs.Rules.{most_content}

-- no hunk has more content than it has bytes in memory
pub most_content-le : (kind : HunkKind) (size : ℕ) → most_content kind size ≤ 4 * size
most_content-le Code size = omega arith
most_content-le Data size = omega arith
most_content-le Bss size = omega arith
