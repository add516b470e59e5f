-- The line begins as that of any hunk; then comes where it is from.
use Rattle.std.proofs.Common.{List, ℕ, ap}
use Rattle.hunk_loadfile.specs.LoadHunk.{FileHunk}
use Rattle.hunk_base.proofs.TextLemmas.{◌⨾◌, Puts-as}
use Rattle.hunk_text.specs.Listing.{hunk_front}
use Rattle.hunk_origins.proofs.map.write_line.Goals as goal

abbrev front_of : ℕ → FileHunk → List ℕ
front_of number hunk = hunk_front number hunk.kind hunk.memory hunk.size

pub returns : goal.returns
returns g c = Puts-as (ap (front_of c.args.number) c.hunk.view_is) c.write_hunk_front.ensures ⨾ c.put.ensures ⨾ c.write_origin.ensures ⨾ c.end_line.ensures
