-- The names so far are the first ones in the list, and texts.
use Rattle.std.proofs.Common.{◌≡◌, ℕ, List, Option, length, map, string_bytes}
use Rattle.std.specs.List.{All}
use Rattle.std.specs.Str.{IsUtf8}
use Rattle.hunk_tool.specs.FileSystem.{IsContent}
use Rattle.hunk_store.specs.NameReader.{TakesNames, unread}
use Rattle.hunk_store.proofs.listed_names.listed_names.Given as goal

abbrev pub invariant-loop-index : goal.invariant-loop-index
invariant-loop-index g l = record {
  start : Option (List ℕ);
  from_start : IsContent (g.S.FileSystem.content l.store l.list.file.now) start;
  same_end : l.reader.end ≡ l.list.end;
  taken : TakesNames l.list.end start (unread g.S.File.Source.left l.reader) (map string_bytes l.names.items);
  texts : All IsUtf8 (map string_bytes l.names.items);
  count : length l.names.items ≡ l.index;
}
