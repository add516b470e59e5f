-- The loader stands for the header, and then for what follows.
use Rattle.std.proofs.Common.{[], ◌∙◌}
use Rattle.std.proofs.lemmas.Result.{err_from_is_err_and}
use Rattle.hunk_uses.proofs.boot.start.Goals as goal

pub returns-in_err-feed-clause-starts : goal.returns-in_err-feed-clause-starts
returns-in_err-feed-clause-starts c =
    let p = err_from_is_err_and c.from_residual-in_err-feed.result c.from_residual-in_err-feed.ensures.1 in
    rw (p.1, p.2) (c.in_err-feed.ensures.fed _ (c.in_err-feed.ensures.stands c.args.header.now (c.feed.ensures.stands [] c.in_ok-loader.ensures.stands)))

pub returns-clause-starts : goal.returns-clause-starts
returns-clause-starts c = (
  c.in_ok-feed.ensures.stands c.args.header.now (c.feed.ensures.stands [] c.in_ok-loader.ensures.stands),
  c.in_ok-feed.ensures.given ∙ c.feed.ensures.given ∙ c.in_ok-loader.ensures.given ∙ c.deref.ensures.value ∙ c.in_ok-bases.ensures,
)
