-- Each exit of the run, and what was written of the two files.
use Rattle.std.proofs.Common.{List, [], refl, rules, subst, sym}
use Rattle.std.proofs.lemmas.Result.{err_from_is_err_and}
use Rattle.hunk_base.specs.Streams.{HasRead}
use Rattle.hunk_loadfile.specs.LoadFile.{IsLoadOf}
use Rattle.hunk_loadfile.specs.LoadHunk.{FileHunk}
use Rattle.hunk_tool.specs.Compare.{IsCompareFault, input_of, taken_of}
use Rattle.hunk_tool.proofs.CompareLemmas.{BothRead-compared, HasRead-compared, IsLoadFile-read, IsCompareFault-first, IsCompareFault-second, IsCompareFault-written, comparison-fits}
use Rattle.hunk_tool.proofs.compare.compare_run.Goals as goal

pub returns-in_err-one-clause-err : goal.returns-in_err-one-clause-err
returns-in_err-one-clause-err g c =
    let first = input_of g.R.Source.left g.R.Source.failed g.R.Source.ended c.args.first.now c.read_load.new.reader in
    let second = input_of g.S.Source.left g.S.Source.failed g.S.Source.ended c.args.second.now c.args.second.now in
    let p = err_from_is_err_and c.from_residual.result c.from_residual.ensures.1 in
    rw (p.1, p.2)
    (IsCompareFault-first g.row.A.Denot c.args.with_symbols first second (g.W.Sink.taken c.args.writer.now) (g.W.Sink.failed c.args.writer.now) _ refl c.in_err-one.ensures.refused)

pub returns-in-Err-clause-err : goal.returns-in-Err-clause-err
returns-in-Err-clause-err g c =
    let first = input_of g.R.Source.left g.R.Source.failed g.R.Source.ended c.args.first.now c.read_load.new.reader in
    let second = input_of g.S.Source.left g.S.Source.failed g.S.Source.ended c.args.second.now c.read_comparison.new.reader in
    let taken = taken_of g.W.Sink.taken g.W.Sink.failed c.args.writer.now c.args.writer.now in
    subst (IsCompareFault c.args.with_symbols first second taken) (sym c.of_read.ensures)
    (IsCompareFault-second g.row.A.Denot c.args.with_symbols first second (g.W.Sink.taken c.args.writer.now) (g.W.Sink.failed c.args.writer.now) c.in-Err.fault
    (record { hunks = c.in_ok-one.one; read = c.in_ok-one.ensures.file; ended = c.in_ok-one.ensures.ended }) c.in-Err.ensures.refused)

pub returns-in_err-finish-clause-err : goal.returns-in_err-finish-clause-err
returns-in_err-finish-clause-err g c =
    let first = input_of g.R.Source.left g.R.Source.failed g.R.Source.ended c.args.first.now c.read_load.new.reader in
    let second = input_of g.S.Source.left g.S.Source.failed g.S.Source.ended c.args.second.now c.read_comparison.new.reader in
    let firsts = c.in-Ok.both.0 in
    let compared = c.in-Ok.ensures.compared in
    let seconds = compared.holds.seconds in
    let one = subst (λ (hunks : List FileHunk). HasRead first.left first.left_then (IsLoadOf hunks)) (sym c.in-Ok.ensures.first) c.in_ok-one.ensures.file in
    let other = HasRead-compared second.left second.left_then firsts c.in-Ok.both.1 compared in
    let fits = comparison-fits c.args.with_symbols firsts seconds (IsLoadFile-read _ _ firsts one) (IsLoadFile-read _ _ seconds other) in
    let wrote = c.in_err-finish.ensures.counted c.args.writer.now _ fits ((c.write_comparison-same.ensures.puts seconds compared.holds.compares).adds _ [] c.new-text.ensures.empty) in
    let p = err_from_is_err_and c.from_residual-in_err-finish.result c.from_residual-in_err-finish.ensures.1 in
    rw (p.1, p.2)
    (IsCompareFault-written first second firsts seconds one c.in_ok-one.ensures.ended other c.in-Ok.ensures.ended
    g.row.A.Denot g.W.Sink.taken g.W.Sink.failed c.args.writer.now _ c.args.with_symbols c.in_err-finish.field-0.0 c.in_err-finish.ensures.device (search (rules, wrote)))

pub returns-clause-ok : goal.returns-clause-ok
returns-clause-ok g c =
    let first = input_of g.R.Source.left g.R.Source.failed g.R.Source.ended c.args.first.now c.read_load.new.reader in
    let second = input_of g.S.Source.left g.S.Source.failed g.S.Source.ended c.args.second.now c.read_comparison.new.reader in
    let firsts = c.in-Ok.both.0 in
    let compared = c.in-Ok.ensures.compared in
    let seconds = compared.holds.seconds in
    let one = subst (λ (hunks : List FileHunk). HasRead first.left first.left_then (IsLoadOf hunks)) (sym c.in-Ok.ensures.first) c.in_ok-one.ensures.file in
    let other = HasRead-compared second.left second.left_then firsts c.in-Ok.both.1 compared in
    let fits = comparison-fits c.args.with_symbols firsts seconds (IsLoadFile-read _ _ firsts one) (IsLoadFile-read _ _ seconds other) in
    let wrote = c.in_ok-finish.ensures.counted c.args.writer.now _ fits ((c.write_comparison-same.ensures.puts seconds compared.holds.compares).adds _ [] c.new-text.ensures.empty) in
    BothRead-compared first second firsts seconds one c.in_ok-one.ensures.ended other c.in-Ok.ensures.ended
    c.args.with_symbols c.write_comparison-same.result (g.W.Sink.taken c.args.writer.now) _ (search (rules, wrote)) (c.write_comparison-same.ensures.same seconds compared.holds.compares)
