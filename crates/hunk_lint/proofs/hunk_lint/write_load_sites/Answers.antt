-- No site yet, and one more.
use Rattle.std.proofs.Common.{◌∙◌, subst, sym}
use Rattle.hunk_base.proofs.TextLemmas.{Walked, Walked-more, Walked-none}
use Rattle.hunk_lint.specs.HunkLint.{load_site_lints}
use Rattle.hunk_lint.proofs.hunk_lint.write_load_sites.Goals as goal

pub loop-site-init : goal.loop-site-init
loop-site-init g c =
    let lines = load_site_lints c.args.hunks.now c.args.place c.args.content.now in
    let text = c.args.text.now in
    record {
      can_next = tt;
      is_finite = tt;
      walked =
          subst (λ left. Walked g.W.Sink.taken g.W.Sink.failed lines text text left c.args.sites.now.entries) (sym (c.into_iter-site-iterator.ensures.into_iter_gives ∙ c.walk-site-items.ensures.rest))
          (Walked-none g.W.Sink.taken g.W.Sink.failed lines text c.args.sites.now.entries);
    }

pub loop-site-preserved : goal.loop-site-preserved
loop-site-preserved g c =
    record {
      can_next = tt;
      is_finite = tt;
      walked =
          Walked-more g.W.Sink.taken g.W.Sink.failed (load_site_lints c.args.hunks.now c.args.place c.args.content.now) (c.in-Some.site, c.in-Some.target.now) c.loop-site.invariant.walked c.in-Some.ensures.steps c.write_load_site.ensures;
    }
