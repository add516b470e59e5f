-- The lines about the hunks of the file, or why it was not read again.
use Rattle.std.proofs.Common.{inr, refl}
use Rattle.std.proofs.lemmas.Result.{err_from_is_err_and}
use Rattle.hunk_tool.specs.FileSystem.{IsReaderOf}
use Rattle.hunk_store.specs.Addresses.{HaveNumbers, input_of, source_of}
use Rattle.hunk_commands.specs.Explain.{IsLoadFile}
use Rattle.hunk_commands.proofs.AgainLemmas.{not_loaded}
use Rattle.hunk_commands.proofs.ExplainLemmas.{tells_places}
use Rattle.hunk_commands.proofs.explain.explain_loaded_places.Goals as goal

pub returns-in_err-loaded : goal.returns-in_err-loaded
returns-in_err-loaded g c =
    let p = err_from_is_err_and c.from_residual-in_err-loaded.result c.from_residual-in_err-loaded.ensures.1 in
    let content = g.S.FileSystem.content c.args.store.now c.args.name.now in
    let input = input_of g.S.File.Source.left g.S.File.Source.failed g.S.File.Source.ended c.in_ok-reader.reader c.read_load.new.reader in
    let reader : IsReaderOf content input = record { from_start = c.in_ok-reader.ensures.there; to_end = g.met.S.FileSystem.at_end _; may_fail = g.met.S.FileSystem.may_fail _ _ _ } in
    rw p.1 (inr (not_loaded content input _ p.0 p.2 reader c.in_err-loaded.ensures.refused), refl)

pub returns : goal.returns
returns g c =
    let contents = g.S.FileSystem.content c.args.store.now in
    let source = source_of c.args.addresses in
    let bases = c.as_slice.result.now in
    let numbers_are : HaveNumbers contents source bases = rw c.as_slice.ensures.value c.in_ok-bases.ensures.numbers in
    let is_file : IsLoadFile (contents c.args.name.now) c.in_ok-loaded.loaded = record { input = input_of g.S.File.Source.left g.S.File.Source.failed g.S.File.Source.ended c.in_ok-reader.reader c.read_load.new.reader; is_reader = record { from_start = c.in_ok-reader.ensures.there; to_end = g.met.S.FileSystem.at_end _; may_fail = g.met.S.FileSystem.may_fail _ _ _ }; holds = (c.in_ok-loaded.ensures.file, c.in_ok-loaded.ensures.ended) } in
    tells_places g.W.Sink.taken g.W.Sink.failed c.args.errors.now c.tell_places.new.errors contents source (IsLoadFile (contents c.args.name.now)) c.in_ok-loaded.loaded c.hunks.result.now bases
    c.hunks.ensures.value is_file numbers_are c.tell_places.ensures
