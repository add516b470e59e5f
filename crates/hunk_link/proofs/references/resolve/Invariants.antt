-- What the references of the hunks so far add, all of which are defined.
use Rattle.std.proofs.Common.{◌≡◌, drop, take}
use Rattle.hunk_link.specs.Carried.{all_addends}
use Rattle.hunk_link.specs.References.{AllDefined, references_of}
use Rattle.hunk_link.proofs.FirstToBreakLemmas.{IsObeyedBefore}
use Rattle.hunk_link.proofs.references.resolve.Given as goal

abbrev pub invariant-loop-ranked : goal.invariant-loop-ranked
invariant-loop-ranked g l = record {
  value : l.addends.items ≡ all_addends l.table (take l.ranked-index l.hunks);
  defined : IsObeyedBefore (AllDefined l.table) (references_of (drop l.ranked-index l.hunks)) (references_of l.hunks);
}
