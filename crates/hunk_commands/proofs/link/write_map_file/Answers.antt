-- The map that was put in the place of MAP, and why it was not.
use Rattle.std.proofs.Common.{map, string_bytes, subst, sym}
use Rattle.hunk_origins.specs.Map.{map_text}
use Rattle.hunk_store.specs.Store.{HasRun, IsCauseOf}
use Rattle.hunk_commands.specs.Link.{IsUnmapped}
use Rattle.hunk_commands.proofs.LinkLemmas.{Appends-text, IsUnmapped-cause}
use Rattle.hunk_commands.proofs.link.write_map_file.Goals as goal

pub returns-in-Err-clause-err : goal.returns-in-Err-clause-err
returns-in-Err-clause-err g c =
    let failure = c.in-Err.failure in
    let content = g.S.FileSystem.content c.args.store.now c.args.map_file.now in
    subst (IsUnmapped content c.args.map_file.now) (sym c.map_failure.ensures)
    (IsUnmapped-cause content c.args.map_file failure c.write_map_to-written.result (subst (λ ran. IsCauseOf ran content c.args.map_file.now failure) c.as_run.ensures c.in-Err.ensures.cause))

pub returns-in-Ok-clause-ok : goal.returns-in-Ok-clause-ok
returns-in-Ok-clause-ok g c =
    let before = c.in_ok-new.new in
    let after = c.write_map_to-written.new.writer in
    record {
      start = g.S.New.Sink.taken before;
      taken = g.S.New.Sink.taken after;
      begun = c.in_ok-new.ensures.begun;
      written = Appends-text before after g.S.New.Sink.taken g.S.New.Sink.failed (map_text (map string_bytes c.args.names.now) c.args.file.now c.args.units.now)
          c.write_map_to-written.result (subst HasRun c.as_run.ensures c.in-Ok.ensures.ran) c.write_map_to-written.ensures;
      replaced = c.in-Ok.ensures.replaced;
    }
