use Rattle.std.proofs.Common.{◌/◌, ◌<◌, ◌≡◌, arith}
use Rattle.hunk_base.specs.Pages.{page_at}
use Rattle.hunk_base.specs.Sites.{Meets}
use Rattle.hunk_base.proofs.PagesLemmas.{Meets-all_sites, Meets-pages}
use Rattle.hunk_base.proofs.pages.is_free_beside.Goals as goal
use Rattle.hunk_base.proofs.pages.is_free_beside.Goals.{else-first-number-via-then-first-number+else-not-is_free_far, else-first-number-via-else-first-number, else-number-last-via-then-number-last+else-not-is_free_far-2, else-number-last-via-else-number-last}

pub returns-then-not-is_free_far-clause-meets : goal.returns-then-not-is_free_far-clause-meets
returns-then-not-is_free_far-clause-meets g c = Meets-all_sites c.page_number-first.result c.args.offset c.args.pages.now c.if-not-is_free_far.ensures

pub returns-then-not-is_free_far-2-clause-meets : goal.returns-then-not-is_free_far-2-clause-meets
returns-then-not-is_free_far-2-clause-meets g c = Meets-all_sites c.page_number-last.result c.args.offset c.args.pages.now c.if-not-is_free_far-2.ensures

pub returns-clause-free : goal.returns-clause-free
returns-clause-free g c =
    let before : c.page_number-first.result < c.page_number-number.result → Meets (page_at c.args.pages.now c.page_number-first.result) c.args.offset → ⊥ =
    elim c.else-first-number.branch [
      | else-first-number-via-then-first-number+else-not-is_free_far w ↦ λ below. w.if-not-is_free_far.ensures
      | else-first-number-via-else-first-number w ↦ λ below. absurd (omega arith)
    ] in
    let after : c.page_number-number.result < c.page_number-last.result → Meets (page_at c.args.pages.now c.page_number-last.result) c.args.offset → ⊥ =
    elim c.else-number-last.branch [
      | else-number-last-via-then-number-last+else-not-is_free_far-2 w ↦ λ below. w.if-not-is_free_far-2.ensures
      | else-number-last-via-else-number-last w ↦ λ below. absurd (omega arith)
    ] in
    let own : c.page_number-number.result ≡ c.args.offset / 4096 = omega arith in
    rw own at (Meets-pages c.args.offset c.page_number-first.result c.page_number-number.result c.page_number-last.result c.args.pages.now c.requires
    (omega arith) (omega arith) (omega arith) before after)
