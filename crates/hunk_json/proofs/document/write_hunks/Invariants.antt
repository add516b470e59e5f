-- The hunks so far were put.
use Rattle.std.proofs.Common.{drop}
use Rattle.hunk_json.specs.FileJson.{hunk_json, hunks_at}
use Rattle.hunk_json.proofs.DocumentLemmas.{Listing}
use Rattle.hunk_json.proofs.document.write_hunks.Given as goal

abbrev pub invariant-loop-hunk : goal.invariant-loop-hunk
invariant-loop-hunk g l = Listing g.W.Sink.taken g.W.Sink.failed l.form (hunk_json (g.T.WriteHunk.json l.form)) l.fn.text l.text l.later (hunks_at l.left (drop l.hunk-index l.hunks)) (hunks_at l.offsets l.hunks)
