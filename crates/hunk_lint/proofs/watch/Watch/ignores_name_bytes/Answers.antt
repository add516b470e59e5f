-- What the name is before the longword, and after it.
use Rattle.std.proofs.Common.{◌∷◌}
use Rattle.hunk_lint.specs.Oddity.{name_so_far}
use Rattle.hunk_lint.proofs.WatchLemmas.{becomes-ignored}
use Rattle.hunk_lint.proofs.watch.Watch.ignores_name_bytes.Goals as goal

pub returns : goal.returns
returns g c = λ before is.
    let name = name_so_far before in
    becomes-ignored _ _ _ name (name_so_far ((c.args.due, c.args.word) ∷ before)) c.becomes_ignored.ensures is.name (c.name_after.ensures name is.name)
