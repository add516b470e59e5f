use Rattle.std.proofs.Common.{◌≡◌, ◌++◌, drop}
use Rattle.hunk_base.specs.Name.{name_of}
use Rattle.hunk_base.proofs.name.cut.Given as goal

abbrev pub invariant-loop-word : goal.invariant-loop-word
invariant-loop-word g l = name_of l.words ≡ l.bytes ++ name_of (drop l.word-index l.words)
