-- The lines about the names in the list so far follow those before.
use Rattle.std.proofs.Common.{◌≡◌, ◌++◌, ℕ, List, Option}
use Rattle.hunk_store.specs.NameReader.{TakesNames, unread}
use Rattle.hunk_commands.specs.Survey.{AreTold}
use Rattle.hunk_commands.proofs.survey.tell_of_list.Given as goal

abbrev pub invariant-names : goal.invariant-names
invariant-names g l = record {
  listed : List (List ℕ);
  same_end : l.names.end ≡ l.fn.names.end;
  taken : TakesNames l.fn.names.end (unread g.S.File.Source.left l.fn.names) (unread g.S.File.Source.left l.names) listed;
  told : (names : List (List ℕ)) (start : Option (List ℕ)) → AreTold l.plan (g.S.FileSystem.content l.store) names start (g.O.Sink.taken l.fn.output) l.fn.others
      → AreTold l.plan (g.S.FileSystem.content l.store) (names ++ listed) start (g.O.Sink.taken l.output) l.tally;
}
