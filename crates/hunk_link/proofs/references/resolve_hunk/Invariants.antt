-- What the references so far add is appended, the names so far are defined, and there is room for
-- the others.
use Rattle.std.proofs.Common.{◌≡◌, ◌+◌, ◌≤◌, ◌++◌, drop, length, map, take, vec_len, vec_capacity}
use Rattle.hunk_link.specs.Addend.{name_addend}
use Rattle.hunk_link.specs.Ranks.{items_of}
use Rattle.hunk_link.specs.References.{AllDefined, references_in}
use Rattle.hunk_link.proofs.FirstToBreakLemmas.{IsObeyedBefore}
use Rattle.hunk_link.proofs.references.resolve_hunk.Given as goal

abbrev pub invariant-loop-name : goal.invariant-loop-name
invariant-loop-name g l = record {
  room : vec_len l.fn.addends + length l.name-items ≤ vec_capacity l.addends;
  len : vec_len l.addends ≡ vec_len l.fn.addends + l.name-index;
  value : l.addends.items ≡ l.fn.addends.items ++ map (name_addend l.table) (take l.name-index l.name-items);
  defined : IsObeyedBefore (AllDefined l.table) (items_of (λ _. drop l.name-index l.name-items) l.ranked) (items_of references_in l.ranked);
}
