use Rattle.std.proofs.Common.{◌≡◌, ◌<◌, ◌∙◌, [], if◌then◌else◌, is_ok, length, set, Bool, false, Result, Ok, Err, OnOk, is_err}
use Rattle.std.proofs.lemmas.List.{get_or_read}
use Rattle.std.specs.BTreeMap.{insert_entry}
use Rattle.std.specs.Ordering.{nat_cmp}
use Rattle.hunk_base.specs.Pages.{LieInPages, all_sites, page_at}
use Rattle.hunk_base.proofs.PagesLemmas.{AppendsEmptyPages-LieInPages, AppendsEmptyPages-all_sites, AppendsEmptyPages-page_at, LieInPages-read, added-extended}
use Rattle.hunk_base.proofs.pages.grow_and_add.Given.{Over}
use Rattle.hunk_base.proofs.pages.grow_and_add.Goals as goal
use Rattle.hunk_base.proofs.pages.grow_and_add.Goals.{After-add}

-- what holds where a result is no error
reached : {X E P : Type 0} (result : Result X E) (test : Bool) → test ≡ false → test ≡ is_err result → OnOk result P → P
reached (Ok done) test none is holds = holds
reached (Err error) test none is holds = absurd cc

-- the site was put into its page, or none
added : (g : Over) (c : After-add g)
    → LieInPages 0 (set c.grow.new.pages.items c.args.number c.add.new.self)
    × (all_sites (set c.grow.new.pages.items c.args.number c.add.new.self)
    ≡ (if is_ok c.add.result then insert_entry nat_cmp (all_sites c.args.pages.now.items) c.args.offset c.args.target else all_sites c.args.pages.now.items))
added g c =
    let inside : c.args.number < length c.grow.new.pages.items = rw c.grow.new.pages.ok.0 at (reached c.grow.result c.is_err.result c.if-is_err.false c.is_err.ensures.value c.grow.ensures.reached) in
    added-extended (is_ok c.add.result) c.args.offset c.args.number c.args.target c.index_mut.result.now c.add.new.self c.args.pages.now.items c.grow.new.pages.items
    c.requires.in_pages c.grow.ensures.extends c.requires.number inside c.index_mut.ensures.value c.add.ensures.added

pub returns-then-is_err-clause-in_pages : goal.returns-then-is_err-clause-in_pages
returns-then-is_err-clause-in_pages g c = AppendsEmptyPages-LieInPages c.args.pages.now.items c.grow.new.pages.items c.grow.ensures.extends c.requires.in_pages

pub returns-then-is_err-clause-added : goal.returns-then-is_err-clause-added
returns-then-is_err-clause-added g c = AppendsEmptyPages-all_sites c.args.pages.now.items c.grow.new.pages.items c.grow.ensures.extends

pub add-requires : goal.add-requires
add-requires g c =
    let inside : c.args.number < length c.grow.new.pages.items = rw c.grow.new.pages.ok.0 at (reached c.grow.result c.is_err.result c.if-is_err.false c.is_err.ensures.value c.grow.ensures.reached) in
    let in_pages = AppendsEmptyPages-LieInPages c.args.pages.now.items c.grow.new.pages.items c.grow.ensures.extends c.requires.in_pages in
    LieInPages-read c.args.number c.args.offset c.index_mut.result.now c.grow.new.pages.items in_pages c.requires.number inside c.index_mut.ensures.value

pub returns-clause-in_pages : goal.returns-clause-in_pages
returns-clause-in_pages g c = (added g (goal.at.returns-clause-in_pages g c).After-add).0

pub returns-clause-overlap : goal.returns-clause-overlap
returns-clause-overlap g c =
    let inside : c.args.number < length c.grow.new.pages.items = rw c.grow.new.pages.ok.0 at (reached c.grow.result c.is_err.result c.if-is_err.false c.is_err.ensures.value c.grow.ensures.reached) in
    let same : c.index_mut.result.now ≡ page_at c.args.pages.now.items c.args.number =
    get_or_read c.grow.new.pages.items c.args.number c.index_mut.result.now inside c.index_mut.ensures.value []
    ∙ AppendsEmptyPages-page_at c.args.number c.args.pages.now.items c.grow.new.pages.items c.grow.ensures.extends in
    rw same at c.add.ensures.overlap

pub returns-clause-added : goal.returns-clause-added
returns-clause-added g c = (added g (goal.at.returns-clause-added g c).After-add).1
