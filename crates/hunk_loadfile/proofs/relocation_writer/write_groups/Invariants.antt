-- The numbers so far were put, and with the groups of the remaining sites they are the groups of all.
use Rattle.std.proofs.Common.{◌≡◌, ◌≤◌, ◌<◌, ◌+◌, ◌*◌, ◌++◌, ℕ, List, length}
use Rattle.std.specs.List.{All}
use Rattle.std.specs.List.Sorted.{IsNonDecreasingBy}
use Rattle.hunk_base.specs.Text.{Puts}
use Rattle.hunk_loadfile.specs.NumberWidth.{bytes_in}
use Rattle.hunk_loadfile.specs.WrittenForm.{groups_words}
use Rattle.hunk_loadfile.proofs.relocation_writer.write_groups.Given as goal

abbrev pub invariant-groups : goal.invariant-groups
invariant-groups g l = record {
  rise : IsNonDecreasingBy (λ (pair : ℕ × ℕ). pair.1) l.rest;
  room : l.numbers + 3 * length l.rest ≤ 3 * length l.pairs;
  below : (count : ℕ) → All (λ (pair : ℕ × ℕ). pair.1 < count) l.pairs → All (λ (pair : ℕ × ℕ). pair.1 < count) l.rest;
  words : List ℕ;
  counts : l.numbers ≡ length words;
  whole : (count : ℕ) → All (λ (pair : ℕ × ℕ). pair.1 < count) l.pairs → words ++ groups_words count l.rest ≡ groups_words count l.pairs;
  puts : Puts g.W.Sink.taken g.W.Sink.failed l.fn.text l.text (bytes_in l.width words);
}

abbrev pub decreases-groups : goal.decreases-groups
decreases-groups g l = length l.rest
