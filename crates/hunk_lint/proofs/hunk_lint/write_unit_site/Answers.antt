-- The line about the site, and those about what is added there.
use Rattle.hunk_base.proofs.TextLemmas.{◌⨾◌}
use Rattle.hunk_lint.proofs.hunk_lint.write_unit_site.Goals as goal

pub returns : goal.returns
returns g c = c.write_odd.ensures ⨾ c.write_target.ensures
