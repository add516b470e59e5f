-- The lines about the sites, and those about the symbols.
use Rattle.std.proofs.Common.{ℕ, List, ap₂}
use Rattle.std.specs.List.{flat_map}
use Rattle.hunk_base.specs.Sites.{SiteMap}
use Rattle.hunk_base.proofs.TextLemmas.{◌⨾◌, Puts-as}
use Rattle.hunk_objects.specs.UnitHunk.{ObjectHunk}
use Rattle.hunk_objects.specs.declared.unit_hunk.Adds.{Adds}
use Rattle.hunk_lint.specs.HunkLint.{unit_site_lints}
use Rattle.hunk_lint.specs.HunkLintLines.{symbol_lints}
use Rattle.hunk_lint.specs.declared.hunk_lint_lines.HunkPlace.{HunkPlace}
use Rattle.hunk_lint.specs.declared.hunk_lint_lines.HunkPlace.TheVariants.{InUnit}
use Rattle.hunk_lint.proofs.hunk_lint.write_unit_hunk.Goals as goal

abbrev site_lines : List ObjectHunk → HunkPlace → List ℕ → SiteMap Adds → List ℕ
site_lines hunks place content sites = flat_map (unit_site_lints hunks place content) sites.entries

abbrev symbol_lines : HunkPlace → ℕ → List (List ℕ × ℕ) → List ℕ
symbol_lines place size symbols = flat_map (symbol_lints place size) symbols

pub returns : goal.returns
returns g c =
    let place = InUnit c.args.unit c.args.number in
    let sites = Puts-as (ap₂ (site_lines c.args.hunks.now place) c.content.ensures.value c.sites.ensures.value) c.write_unit_sites.ensures in
    let symbols = Puts-as (ap₂ (symbol_lines place) c.size.ensures c.symbols.ensures.value) c.write_symbols.ensures in
    sites ⨾ symbols
