use Rattle.std.proofs.Common.{◌≡◌, false, ◌*◌, [], ◌∙◌, ap, refl, sym, subst}
use Rattle.hunk_words.specs.PartialHunk.{goes_to_content}
use Rattle.hunk_words.specs.Values.{empty}
use Rattle.hunk_loadfile.specs.OpenHunk.{Shows}
use Rattle.hunk_loadfile.specs.declared.open_hunk.OpenHunk.{OpenHunk}
use Rattle.hunk_loadfile.proofs.HunkBuilderLemmas.{Builds-end, IsEnded-from}
use Rattle.hunk_loadfile.proofs.hunk_builder.HunkBuilder.end_hunk.Goals as goal

pub returns-clause-ends : goal.returns-clause-ends
returns-clause-ends g c = λ told watch h.
    let header = c.in-Some.header in
    let words = goes_to_content told.receiver in
    let limit : c.limit-limit.result ≡ watch.position.limit = c.limit-limit.ensures.shown watch.position.limit watch.seen words told.hunk h.hunk in
    let same : watch.position.limit ≡ 4 * header.1 = sym limit ∙ c.if-limit-bytes_in.false ∙ c.bytes_in.ensures in
    let shows : Shows c.replace-hunk.result (4 * header.1) watch.seen words told.hunk =
    subst (λ k. Shows k (4 * header.1) watch.seen words told.hunk) (sym c.replace-hunk.ensures.value) (subst (λ l. Shows c.args.self.now.hunk l watch.seen words told.hunk) same h.hunk) in (
      IsEnded-from c.args.self.now header c.close.result told watch c.in-Some.ensures.within c.in-Some.ensures.value same (c.close.ensures.value header.0 watch.seen words told.hunk shows c.of_bits.ensures) h,
      Builds-end c.args.self.now c.replace-hunk.new.dest _ c.limit-limit.result told watch refl limit (subst (λ k. Shows k c.limit-limit.result [] false empty) (sym c.replace-hunk.ensures.after) c.new.ensures) h,
    )

pub returns-clause-limit : goal.returns-clause-limit
returns-clause-limit g c =
    let header = c.in-Some.header in
    c.close.ensures.limit ∙ ap (λ (hunk : OpenHunk g.row.A.Denot). hunk.partial.sites.limit) c.replace-hunk.ensures.value ∙ sym c.limit-limit.ensures.kept ∙ c.if-limit-bytes_in.false ∙ c.bytes_in.ensures
    ∙ ap (λ size. 4 * size) (sym c.close.ensures.size)
