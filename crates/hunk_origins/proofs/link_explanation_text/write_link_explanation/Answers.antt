-- The lines, one part after another.
use Rattle.std.proofs.Common.{ap, map}
use Rattle.hunk_base.proofs.TextLemmas.{◌⨾◌, Puts-as}
use Rattle.hunk_origins.specs.LinkExplanation.{told_text}
use Rattle.hunk_origins.proofs.link_explanation_text.write_link_explanation.Goals as goal

pub returns : goal.returns
returns g c =
    Puts-as (ap (told_text (map g.N.FileName.bytes c.args.names.now)) c.explanation.view_is) (c.write_place.ensures ⨾ (c.write_first.ensures ⨾ c.write_uses.ensures))
