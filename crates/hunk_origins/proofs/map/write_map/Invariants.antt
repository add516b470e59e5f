-- The lines of the units so far were put, and the others have as many hunks as are left.
use Rattle.std.proofs.Common.{◌≡◌, ◌+◌, drop, length, map}
use Rattle.hunk_origins.specs.Map.{map_text}
use Rattle.hunk_origins.specs.Origins.{origins}
use Rattle.hunk_origins.proofs.BegunLemmas.{Begun}
use Rattle.hunk_origins.proofs.MapLemmas.{units_rest}
use Rattle.hunk_origins.proofs.map.write_map.Given as goal

abbrev pub invariant-loop-index : goal.invariant-loop-index
invariant-loop-index g l = record {
  counted : l.first + length (origins (drop l.index l.files)) ≡ length l.file;
  begun :
      let names = map g.N.FileName.bytes l.names in
      Begun g.W.Sink.taken g.W.Sink.failed l.fn.text l.text (map_text names l.file l.files) (units_rest names l.first l.index l.file l.files);
}
