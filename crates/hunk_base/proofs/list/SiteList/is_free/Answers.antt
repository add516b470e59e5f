use Rattle.std.proofs.Common.{◌∙◌}
use Rattle.hunk_base.proofs.PageLemmas.{IsFreePlace-decides}
use Rattle.hunk_base.proofs.list.SiteList.is_free.Goals as goal

pub returns : goal.returns
returns g c =
    let same = c.deref.ensures.value ∙ c.self.view_is in
    IsFreePlace-decides c.is_apart.result c.args.offset c.count_before.result c.args.self.now (rw same at c.is_apart.ensures)
