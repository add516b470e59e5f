-- The map of sites judges the site, and its sites stay apart.
use Rattle.std.proofs.Common.{ℕ, List, sym, subst}
use Rattle.hunk_words.specs.PartialHunk.{HunkSoFar, HoldsSites}
use Rattle.hunk_words.specs.Taker.{JudgesSite}
use Rattle.hunk_words.proofs.PartialHunkLemmas.{AreApart-site, HoldsSites-judges}
use Rattle.hunk_words.proofs.partial_hunk.PartialHunk.add_site.Goals as goal

pub returns-clause-judges : goal.returns-clause-judges
returns-clause-judges g c =
    let e = c.try_add.ensures in
    subst (λ (hunk : HunkSoFar g.row.T.Denot). (limit : ℕ) (seen : List ℕ) → HoldsSites limit seen hunk → JudgesSite limit seen c.args.offset c.try_add.result) c.self.view_is
    (λ limit seen holds. HoldsSites-judges limit seen _ c.args.offset c.try_add.result e.outside e.overlap holds)

pub returns-clause-apart : goal.returns-clause-apart
returns-clause-apart g c =
    let e = c.try_add.ensures in
    rw (sym c.self.view_is) (AreApart-site c.self.inside.sites c.try_add.new.self c.args.offset c.args.target c.try_add.result e.outside e.overlap e.adds e.refused)
