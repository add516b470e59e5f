use Rattle.std.proofs.Common.{◌+◌, ◌-◌, ◌^◌, ◌<◌, ◌≤◌, ◌≡◌, get_or, arith}
use Rattle.std.proofs.lemmas.List.{get_or_read}
use Rattle.hunk_base.proofs.PageLemmas.{StandFrom-rises, parts-first}
use Rattle.hunk_base.proofs.SitesLemmas.{AreApart-few}
use Rattle.hunk_base.proofs.list.count_below.Goals as goal
use Rattle.hunk_base.proofs.list.count_below.Goals.{then-loop-count-test+else-sites-count, else-loop-count-test}

pub likely_count-count-requires : goal.likely_count-count-requires
likely_count-count-requires g c =
    let few = AreApart-few (record { limit = 2 ^ 32 + 3; entries = c.args.sites.now }) c.requires in
    omega (arith, few)

pub loop-count-2-init : goal.loop-count-2-init
loop-count-2-init g c = record {
  inside = c.loop-count.invariant;
  after = λ k d low high.
      let rises = StandFrom-rises 0 (2 ^ 32 + 3) c.args.sites.now c.requires c.loop-count.count k d low high in
      elim c.loop-count-test.branch [
        | then-loop-count-test+else-sites-count w ↦
            let read : w.index-sites-count.result ≡ get_or c.args.sites.now c.loop-count.count d = get_or_read c.args.sites.now c.loop-count.count w.index-sites-count.result (omega arith) w.index-sites-count.is d in
            let here : c.args.offset ≤ (get_or c.args.sites.now c.loop-count.count d).0 = rw (← read, w.index-sites-count.is) w.if-sites-count.false in
            omega (arith, here, rises)
        | else-loop-count-test w ↦ absurd (omega arith)
      ];
}

pub returns-else-offset-sites-clause-parts : goal.returns-else-offset-sites-clause-parts
returns-else-offset-sites-clause-parts g c = (
  λ k d low below.
      let rises = StandFrom-rises 0 (2 ^ 32 + 3) c.args.sites.now c.requires k (c.loop-count-2.count - 1) d (omega arith) (omega (arith, c.loop-count-2.invariant.inside)) in
      let read : c.index-sites-count-in-loop-count-2.result ≡ get_or c.args.sites.now (c.loop-count-2.count - 1) d = get_or_read c.args.sites.now (c.loop-count-2.count - 1) c.index-sites-count-in-loop-count-2.result (omega (arith, c.loop-count-2.invariant.inside)) c.index-sites-count-in-loop-count-2.is d in
      let before : (get_or c.args.sites.now (c.loop-count-2.count - 1) d).0 < c.args.offset = rw (← read, c.index-sites-count-in-loop-count-2.is) c.if-offset-sites.false in
      omega (arith, before, rises),
  c.loop-count-2.invariant.after,
)

pub returns-in_default-clause-parts : goal.returns-in_default-clause-parts
returns-in_default-clause-parts g c =
    parts-first c.args.offset c.args.sites.now c.requires (λ d inside. rw (← (c.in-Some.ensures.item.3.1 d)) c.if-first-offset.false)
