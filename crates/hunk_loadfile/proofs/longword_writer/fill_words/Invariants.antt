-- The words so far are in their places.
use Rattle.std.proofs.Common.{◌≡◌, ◌%◌, ◌^◌, map, take}
use Rattle.hunk_loadfile.proofs.longword_writer.fill_words.Given as goal

abbrev pub invariant-loop-index : goal.invariant-loop-index
invariant-loop-index l = take l.index l.words ≡ map (λ n. n % 2 ^ 16) (take l.index l.numbers)
