-- The line of the hunk, its sites, and its symbols and debug blocks.
use Rattle.std.proofs.Common.{◌∙◌, ℕ, List, ap, ap₂}
use Rattle.hunk_loadfile.specs.LoadHunk.{FileHunk}
use Rattle.hunk_words.specs.DebugInfo.{lists_of}
use Rattle.hunk_base.proofs.TextLemmas.{◌⨾◌, Puts-as}
use Rattle.hunk_text.specs.Listing.{debug_lines, load_site_lines}
use Rattle.hunk_text.proofs.load_listing.write_hunk.Goals as goal

abbrev last_of : FileHunk → List ℕ
last_of hunk = debug_lines hunk.symbols hunk.debugs

pub returns : goal.returns
returns g c =
    let sites = Puts-as (ap load_site_lines c.hunk.view_is) c.write_sites.ensures in
    let last = Puts-as (ap₂ debug_lines c.deref.ensures.value (ap lists_of c.deref-2.ensures.value) ∙ ap last_of c.hunk.view_is) c.write_debug_lines.ensures in
    c.write_hunk_line.ensures ⨾ sites ⨾ last
