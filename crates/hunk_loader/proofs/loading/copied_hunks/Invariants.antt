-- The hunks that are made, followed by the remaining ones, are all hunks.
use Rattle.std.proofs.Common.{◌≡◌, ◌≤◌, ◌++◌, drop, length, vec_len, vec_capacity}
use Rattle.hunk_loader.specs.Image.{hunks_of}
use Rattle.hunk_loader.specs.Loading.{loaded}
use Rattle.hunk_loader.proofs.LoadingLemmas.{loaded_from}
use Rattle.hunk_loader.proofs.loading.copied_hunks.Given as goal

abbrev pub invariant-loop-number : goal.invariant-loop-number
invariant-loop-number g l = record {
  room : length l.hunks ≤ vec_capacity l.made;
  len : vec_len l.made ≡ l.number;
  value : hunks_of l.made.items ++ loaded_from l.bases (drop l.number l.bases) (drop l.number l.hunks) ≡ loaded l.hunks l.bases;
}
