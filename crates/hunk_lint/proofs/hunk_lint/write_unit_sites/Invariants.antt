-- The lines about the sites so far were put.
use Rattle.hunk_base.proofs.TextLemmas.{Walked}
use Rattle.hunk_lint.specs.HunkLint.{unit_site_lints}
use Rattle.hunk_lint.proofs.hunk_lint.write_unit_sites.Given as goal

abbrev pub invariant-loop-site : goal.invariant-loop-site
invariant-loop-site g l = record {
  can_next : (goal.iterator-loop-site g).can_next l.site-iterator;
  is_finite : (goal.iterator-loop-site g).is_finite l.site-iterator;
  walked : Walked g.W.Sink.taken g.W.Sink.failed (unit_site_lints l.hunks l.place l.content) l.fn.text l.text l.site-iterator l.sites.entries;
}
