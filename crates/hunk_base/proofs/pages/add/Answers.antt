use Rattle.std.proofs.Common.{◌≡◌, ◌∙◌, ℕ, ◌/◌, [], Err, ap, if◌then◌else◌, set, is_ok, arith}
use Rattle.std.proofs.lemmas.Grind.{common_steps}
use Rattle.std.proofs.lemmas.List.{get_or_read, set-get_or}
use Rattle.std.specs.BTreeMap.{insert_entry}
use Rattle.std.specs.Ordering.{nat_cmp}
use Rattle.hunk_base.specs.Pages.{LieInPages, all_sites}
use Rattle.hunk_base.specs.declared.sites.SiteRefusal.TheVariants.{Overlap}
use Rattle.hunk_base.proofs.PagesLemmas.{LieInPages-read, added-pages, overlaps-own_page}
use Rattle.hunk_base.proofs.pages.add.Given.{Over}
use Rattle.hunk_base.proofs.pages.add.Goals as goal
use Rattle.hunk_base.proofs.pages.add.Goals.{After-add, After-grow_and_add, in_default-via-in-Some+else-not-needs_room_at, in_default-via-in-None-1}

-- the site was put into its page, or none
added : (g : Over) (c : After-add g)
    → LieInPages 0 (set c.args.pages.now.items c.page_number-number.result c.add.new.self)
    × (all_sites (set c.args.pages.now.items c.page_number-number.result c.add.new.self)
    ≡ (if is_ok c.add.result then insert_entry nat_cmp (all_sites c.args.pages.now.items) c.args.offset c.args.target else all_sites c.args.pages.now.items))
added g c =
    added-pages (is_ok c.add.result) c.args.offset c.page_number-number.result c.args.target c.in-Some.page.now c.add.new.self c.args.pages.now.items
    c.requires (omega arith) c.in-Some.ensures.item.3.0 c.in-Some.ensures.value c.add.ensures.added

pub add-requires : goal.add-requires
add-requires g c =
    LieInPages-read c.page_number-number.result c.args.offset c.in-Some.page.now c.args.pages.now.items c.requires (omega arith) c.in-Some.ensures.item.3.0 c.in-Some.ensures.value

pub returns-in-Some-clause-in_pages : goal.returns-in-Some-clause-in_pages
returns-in-Some-clause-in_pages g c = (added g (goal.at.returns-in-Some-clause-in_pages g c).After-add).0

pub returns-in-Some-clause-overlap : goal.returns-in-Some-clause-overlap
returns-in-Some-clause-overlap g c =
    let number : ℕ = c.page_number-number.result in
    let number_is : c.page_number-number.result ≡ c.args.offset / 4096 = omega arith in
    let page_is = get_or_read c.args.pages.now.items number c.in-Some.page.now c.in-Some.ensures.item.3.0 c.in-Some.ensures.value [] in
    let own = rw (c.deref.ensures.value, ← number_is) at c.if-not-is_free_beside.ensures.free in
    overlaps-own_page c.args.offset number (c.add.result ≡ Err Overlap) c.args.pages.now.items own (rw page_is at c.add.ensures.overlap)

pub returns-in-Some-clause-added : goal.returns-in-Some-clause-added
returns-in-Some-clause-added g c = (added g (goal.at.returns-in-Some-clause-added g c).After-add).1

-- the pages are as they were where the page is full or not there yet
kept : (g : Over) (c : After-grow_and_add g) → c.in_default.pages.items ≡ c.args.pages.now.items
kept g c = elim c.in_default.branch [
  | in_default-via-in-Some+else-not-needs_room_at w ↦
      ap (λ pages. pages.items) w.pages-is
      ∙ ap (λ page. set c.args.pages.now.items c.page_number-number.result page) w.in-Some.ensures.value
      ∙ set-get_or c.args.pages.now.items c.page_number-number.result w.in-Some.page.now
  | in_default-via-in-None-1 w ↦ ap (λ pages. pages.items) w.pages-is
]

pub returns-in_default-clause-overlap : goal.returns-in_default-clause-overlap
returns-in_default-clause-overlap g c =
    let number_is : c.page_number-number.result ≡ c.args.offset / 4096 = omega arith in
    let own = rw (c.deref.ensures.value, ← number_is) at c.if-not-is_free_beside.ensures.free in
    overlaps-own_page c.args.offset c.page_number-number.result (c.grow_and_add.result ≡ Err Overlap) c.args.pages.now.items own
    (rw (kept g c) at c.grow_and_add.ensures.overlap)

pub returns-in_default-clause-added : goal.returns-in_default-clause-added
returns-in_default-clause-added g c = rw (kept g c) at c.grow_and_add.ensures.added

-- `grind` at once: `search`, which Rattle tries before it, is slow here
pub grow_and_add-requires-clause-in_pages : goal.grow_and_add-requires-clause-in_pages
grow_and_add-requires-clause-in_pages g c = grind (arith, common_steps)

pub returns-then-not-is_free_beside-clause-outside : goal.returns-then-not-is_free_beside-clause-outside
returns-then-not-is_free_beside-clause-outside g c = grind (arith, common_steps)

pub returns-then-not-is_free_beside-clause-overlap : goal.returns-then-not-is_free_beside-clause-overlap
returns-then-not-is_free_beside-clause-overlap g c = grind (arith, common_steps)

pub returns-in-Some-clause-outside : goal.returns-in-Some-clause-outside
returns-in-Some-clause-outside g c = grind (arith, common_steps)

pub returns-in_default-clause-outside : goal.returns-in_default-clause-outside
returns-in_default-clause-outside g c = grind (arith, common_steps)
