-- The elements so far were put.
use Rattle.std.proofs.Common.{drop}
use Rattle.hunk_json.proofs.DocumentLemmas.{Listing}
use Rattle.hunk_json.proofs.document.write_list.Given as goal

abbrev pub invariant-loop-part : goal.invariant-loop-part
invariant-loop-part g l = Listing g.W.Sink.taken g.W.Sink.failed l.form (g.T.WriteJson.json l.form) l.fn.text l.text l.later (drop l.part-index l.parts) l.parts
