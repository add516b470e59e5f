-- The sizes so far are at the start.
use Rattle.std.proofs.Common.{◌≡◌, length, map, take}
use Rattle.hunk_loadfile.specs.WrittenForm.{size_word}
use Rattle.hunk_loadfile.proofs.load_writer.fill_sizes.Given as goal

abbrev pub invariant-loop-number : goal.invariant-loop-number
invariant-loop-number g l = record {
  long : length l.words ≡ length l.hunks;
  so_far : take l.number l.words ≡ map size_word (take l.number l.hunks);
}
