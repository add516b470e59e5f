-- What was read so far were no names.
use Rattle.std.proofs.Common.{◌≡◌, []}
use Rattle.hunk_store.specs.NameReader.{TakesNames, unread}
use Rattle.hunk_store.proofs.name_reader.NameReader.next.Given as goal

abbrev pub invariant-pieces : goal.invariant-pieces
invariant-pieces g l = record {
  same_end : l.self.end ≡ l.fn.self.end;
  taken : TakesNames l.fn.self.end (unread g.F.Source.left l.fn.self) (unread g.F.Source.left l.self) [];
}
