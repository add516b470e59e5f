-- The remaining sites, patched into the bytes as they are, yield what all sites yield on the bytes
-- as they were.
use Rattle.std.proofs.Common.{◌≡◌, ◌<◌, length, slice_index}
use Rattle.std.specs.List.{All}
use Rattle.hunk_base.specs.Sites.{StandFrom}
use Rattle.hunk_loadfile.specs.Patching.{patched_bytes}
use Rattle.hunk_loadfile.proofs.patching.patch.Given as goal

abbrev pub invariant-loop-offset : goal.invariant-loop-offset
invariant-loop-offset g l = record {
  can_next : (goal.iterator-loop-offset g).can_next l.offset-iterator;
  is_finite : (goal.iterator-loop-offset g).is_finite l.offset-iterator;
  apart : StandFrom 0 (length l.bytes) l.offset-iterator;
  based : All (λ site. site.1 < length l.bases) l.offset-iterator;
  rest : patched_bytes (length l.fn.bytes) l.bytes l.offset-iterator (slice_index l.bases) ≡ patched_bytes (length l.fn.bytes) l.fn.bytes l.sites.entries (slice_index l.bases);
}
