use Rattle.std.proofs.Common.{◌≡◌, map, Some}
use Rattle.hunk_addresses.specs.Bases.{number_of}
use Rattle.hunk_addresses.proofs.bases.parse_bases.Given as goal

abbrev pub invariant-loop-part : goal.invariant-loop-part
invariant-loop-part g l = record {
  can : (goal.iterator-loop-part g).can_next l.part-iterator;
  finite : (goal.iterator-loop-part g).is_finite l.part-iterator;
  numbers : map (λ part. number_of part.now) l.yielded ≡ map Some l.bases.items;
}
