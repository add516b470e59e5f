use Rattle.std.proofs.Common.{◌≡◌, ◌∙◌, Some, slice_get, ap, sym, arith}
use Rattle.std.proofs.lemmas.Option.{slice_get_past, slice_get_read}
use Rattle.hunk_loadfile.specs.Comparison.{symbol_there}
use Rattle.hunk_loadfile.specs.LoadHunk.{FileHunk}
use Rattle.hunk_loadfile.specs.declared.info_difference.InfoDifference.{InfoDifference}
use Rattle.hunk_loadfile.specs.declared.info_difference.InfoDifference.TheVariants.{Symbol}
use Rattle.hunk_loadfile.proofs.comparison.symbol_there.Goals as goal

pub returns-then-index-len : goal.returns-then-index-len
returns-then-index-len g c =
    let index = c.in-Symbol.index in
    let difference : c.args.difference ≡ Some (Symbol c.in-Symbol.hunk index) = c.in-Some.is ∙ ap (λ (d : InfoDifference). Some d) c.in-Symbol.is in
    sym (slice_get_read c.hunk.inside.symbols.items c.len.result index c.swap_remove.result (c.len.ensures ∙ c.hunk.inside.symbols.ok.0) c.if-index-len.true c.swap_remove.ensures.value)
    ∙ ap (λ (hunk : FileHunk). slice_get hunk.symbols index) c.hunk.view_is
    ∙ sym (ap (symbol_there c.args.hunk) difference)

pub returns : goal.returns
returns g c =
    let index = c.in-Symbol.index in
    let difference : c.args.difference ≡ Some (Symbol c.in-Symbol.hunk index) = c.in-Some.is ∙ ap (λ (d : InfoDifference). Some d) c.in-Symbol.is in
    sym (slice_get_past c.hunk.inside.symbols.items index (omega (arith, c.if-index-len.false, c.len.ensures, c.hunk.inside.symbols.ok.0)))
    ∙ ap (λ (hunk : FileHunk). slice_get hunk.symbols index) c.hunk.view_is
    ∙ sym (ap (symbol_there c.args.hunk) difference)
