-- One more hunk.
use Rattle.std.proofs.Common.{◌∙◌, ap, refl, arith}
use Rattle.std.specs.List.{flat_map}
use Rattle.hunk_base.proofs.TextLemmas.{Puts-as, Puts-numbered, numbered-all}
use Rattle.hunk_loadfile.specs.LoadHunk.{FileHunk}
use Rattle.hunk_tool.specs.Symbols.{hunk_symbol_lines}
use Rattle.hunk_tool.proofs.SymbolsLemmas.{hunk_symbol_lines-at}
use Rattle.hunk_tool.proofs.symbols.put_lines.Goals as goal

pub loop-number-preserved : goal.loop-number-preserved
loop-number-preserved g c =
    let form = c.args.form in
    let bases = c.args.bases.now in
    let number = c.loop-number.number in
    let hunk = c.index-hunks-number.result in
    let here = hunk_symbol_lines-at form bases number _ c.deref.result.now hunk refl (c.deref.ensures.value ∙ ap (λ (h : FileHunk). h.symbols) c.hunk.view_is) in
    Puts-numbered g.W.Sink.taken g.W.Sink.failed (hunk_symbol_lines form bases) c.args.hunks.now number hunk c.loop-number-test.true c.index-hunks-number.is c.loop-number.invariant (Puts-as here c.put_hunk_lines.ensures)

pub returns : goal.returns
returns g c = Puts-as (ap (flat_map (hunk_symbol_lines c.args.form c.args.bases.now)) (numbered-all c.args.hunks.now c.loop-number.number (omega arith))) c.loop-number.invariant
