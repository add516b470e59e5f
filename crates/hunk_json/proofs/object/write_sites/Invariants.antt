-- The sites so far were put.
use Rattle.hunk_json.specs.FileJson.{site_json}
use Rattle.hunk_json.proofs.DocumentLemmas.{Listing}
use Rattle.hunk_json.proofs.object.write_sites.Given as goal

abbrev pub invariant-loop-offset : goal.invariant-loop-offset
invariant-loop-offset g l = record {
  can_next : (goal.iterator-loop-offset g).can_next l.offset-iterator;
  is_finite : (goal.iterator-loop-offset g).is_finite l.offset-iterator;
  listing : Listing g.W.Sink.taken g.W.Sink.failed l.form (site_json l.hunk.references) l.fn.text l.text l.later l.offset-iterator l.hunk.sites.entries;
}
