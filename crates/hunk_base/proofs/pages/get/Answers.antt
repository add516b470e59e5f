use Rattle.std.proofs.Common.{◌≡◌, ◌∙◌, [], sym, ap, arith}
use Rattle.std.proofs.lemmas.List.{get_or_past}
use Rattle.hunk_base.specs.Pages.{page_at}
use Rattle.hunk_base.specs.Sites.{target_at}
use Rattle.hunk_base.proofs.PagesLemmas.{target_at-all_sites}
use Rattle.hunk_base.proofs.pages.get.Goals as goal

pub returns-in-Some : goal.returns-in-Some
returns-in-Some g c =
    let found = c.in-Some.ensures.lookup.3.1 [] in
    let all = target_at-all_sites 0 c.page_number.result c.args.offset c.args.pages.now c.requires (omega arith) (omega arith) in
    c.get-in-Some.ensures ∙ ap (λ page. target_at page c.args.offset) found ∙ sym all

pub returns-in-None : goal.returns-in-None
returns-in-None g c =
    let past : page_at c.args.pages.now c.page_number.result ≡ [] = get_or_past c.args.pages.now c.page_number.result [] c.in-None.ensures.lookup.3 in
    let all = target_at-all_sites 0 c.page_number.result c.args.offset c.args.pages.now c.requires (omega arith) (omega arith) in
    sym (all ∙ ap (λ page. target_at page c.args.offset) past)
