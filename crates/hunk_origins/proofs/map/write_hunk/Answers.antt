-- The line, and then the definitions.
use Rattle.std.proofs.Common.{◌∙◌, ap}
use Rattle.std.specs.List.{flat_map}
use Rattle.hunk_base.proofs.TextLemmas.{◌⨾◌, Puts-as}
use Rattle.hunk_text.specs.Listing.{definition_line}
use Rattle.hunk_origins.specs.Origins.{Origin}
use Rattle.hunk_origins.proofs.map.write_hunk.Goals as goal

pub returns : goal.returns
returns g c =
    let same = c.definitions.ensures ∙ ap (λ (o : Origin). o.hunk.definitions) c.origin.view_is in
    c.write_line.ensures ⨾ Puts-as (ap (flat_map definition_line) same) c.write_definitions.ensures
