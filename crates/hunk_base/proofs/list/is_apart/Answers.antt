use Rattle.std.proofs.Common.{ℕ, ◌+◌, ◌-◌, ◌<◌, ◌≤◌, ◌≡◌, length, get_or, arith}
use Rattle.hunk_base.proofs.PageLemmas.{Meets-get_or, IsFreePlace-read}
use Rattle.hunk_base.proofs.list.is_apart.Goals as goal
use Rattle.hunk_base.proofs.list.is_apart.Goals.{else-place-gt0-via-then-place-gt0+else-offset-sites-lt-SITE_BYTES, else-place-gt0-via-else-place-gt0, else-place-sites-via-then-place-sites+else-sites-place-lt-SITE_BYTES, else-place-sites-via-else-place-sites}

pub returns-then-offset-sites-lt-SITE_BYTES : goal.returns-then-offset-sites-lt-SITE_BYTES
returns-then-offset-sites-lt-SITE_BYTES g c =
    let inside : c.args.place - 1 < length c.args.sites.now = omega (arith, c.requires.within) in
    let before = c.requires.parts.0 (c.args.place - 1) c.index-sites-place.result (omega arith) (omega arith) in
    Meets-get_or c.args.offset c.args.sites.now (c.args.place - 1) c.index-sites-place.result inside (omega arith, omega arith)

pub returns-then-sites-place-lt-SITE_BYTES : goal.returns-then-sites-place-lt-SITE_BYTES
returns-then-sites-place-lt-SITE_BYTES g c =
    let after = c.requires.parts.1 c.args.place c.index-sites-place-then-place-sites.result (omega arith) (omega arith) in
    Meets-get_or c.args.offset c.args.sites.now c.args.place c.index-sites-place-then-place-sites.result (omega arith) (omega arith, omega arith)

pub returns : goal.returns
returns g c =
    let last : 0 < c.args.place → (site : ℕ × g.row.T.Denot) × (site ≡ get_or c.args.sites.now (c.args.place - 1) site) × (site.0 + 4 ≤ c.args.offset) =
    elim c.else-place-gt0.branch [
      | else-place-gt0-via-then-place-gt0+else-offset-sites-lt-SITE_BYTES w ↦
          λ positive. (w.index-sites-place.result, w.index-sites-place.is, rw w.index-sites-place.is (omega arith))
      | else-place-gt0-via-else-place-gt0 w ↦ λ positive. absurd (omega arith)
    ] in
    let first : c.args.place < length c.args.sites.now → (site : ℕ × g.row.T.Denot) × (site ≡ get_or c.args.sites.now c.args.place site) × (c.args.offset + 4 ≤ site.0) =
    elim c.else-place-sites.branch [
      | else-place-sites-via-then-place-sites+else-sites-place-lt-SITE_BYTES w ↦
          λ below. (w.index-sites-place-then-place-sites.result, w.index-sites-place-then-place-sites.is, rw w.index-sites-place-then-place-sites.is (omega arith))
      | else-place-sites-via-else-place-sites w ↦ λ below. absurd (omega arith)
    ] in
    IsFreePlace-read c.args.offset c.args.place c.args.sites.now c.requires.spaced c.requires.within last first
