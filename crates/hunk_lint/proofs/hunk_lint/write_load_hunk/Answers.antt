-- The lines about the sites, and those about the symbols.
use Rattle.std.proofs.Common.{◌∙◌, ℕ, List, ap}
use Rattle.std.specs.List.{flat_map}
use Rattle.hunk_base.proofs.TextLemmas.{◌⨾◌, Puts-as}
use Rattle.hunk_loadfile.specs.LoadHunk.{FileHunk}
use Rattle.hunk_lint.specs.HunkLint.{load_site_lints}
use Rattle.hunk_lint.specs.HunkLintLines.{symbol_lints}
use Rattle.hunk_lint.specs.declared.hunk_lint_lines.HunkPlace.{HunkPlace}
use Rattle.hunk_lint.specs.declared.hunk_lint_lines.HunkPlace.TheVariants.{InLoad}
use Rattle.hunk_lint.proofs.hunk_lint.write_load_hunk.Goals as goal

abbrev site_lines : List FileHunk → HunkPlace → List (ℕ × ℕ) → List ℕ → List ℕ
site_lines hunks place sites content = flat_map (load_site_lints hunks place content) sites

abbrev symbol_lines : HunkPlace → ℕ → List (List ℕ × ℕ) → List ℕ
symbol_lines place size symbols = flat_map (symbol_lints place size) symbols

abbrev sites_of : List FileHunk → HunkPlace → FileHunk → List ℕ
sites_of hunks place hunk = site_lines hunks place hunk.sites.entries hunk.content

abbrev symbols_of : HunkPlace → FileHunk → List ℕ
symbols_of place hunk = symbol_lines place hunk.size hunk.symbols

pub returns : goal.returns
returns g c =
    let place = InLoad c.args.number in
    let hunks = c.args.hunks.now in
    let hunk = c.hunk.inside in
    let sites = Puts-as (ap (site_lines hunks place hunk.sites.entries) c.deref.ensures.value ∙ ap (sites_of hunks place) c.hunk.view_is) c.write_load_sites.ensures in
    let symbols = Puts-as (ap (symbol_lines place hunk.size) c.deref-2.ensures.value ∙ ap (symbols_of place) c.hunk.view_is) c.write_symbols.ensures in
    sites ⨾ symbols
