-- The hunks that are made, followed by the remaining ones, are all hunks.
use Rattle.std.proofs.Common.{◌≡◌, ◌+◌, ◌≤◌, ◌++◌, drop, length, vec_len, vec_capacity}
use Rattle.std.specs.List.{All}
use Rattle.hunk_loadfile.specs.Rules.{IsLoadHunk}
use Rattle.hunk_loader.specs.Image.{hunks_of}
use Rattle.hunk_loader.specs.Loading.{loaded}
use Rattle.hunk_loader.proofs.LoadingLemmas.{loaded_from}
use Rattle.hunk_loader.proofs.loading.moved_hunks.Given as goal

abbrev pub invariant-loop-hunk : goal.invariant-loop-hunk
invariant-loop-hunk g l = record {
  can_next : (goal.iterator-loop-hunk g).can_next l.hunk-iterator;
  is_finite : (goal.iterator-loop-hunk g).is_finite l.hunk-iterator;
  room : length l.bases ≤ vec_capacity l.made;
  left : vec_len l.made + length l.hunk-iterator.rest.items ≡ length l.bases;
  valid : All (IsLoadHunk (length l.bases)) l.hunk-iterator.rest.items;
  value : hunks_of l.made.items ++ loaded_from l.bases (drop (vec_len l.made) l.bases) l.hunk-iterator.rest.items ≡ loaded l.fn.hunks.items l.bases;
}
