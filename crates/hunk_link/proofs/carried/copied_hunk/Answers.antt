use Rattle.std.proofs.Common.{◌≡◌, ap, ◌∙◌}
use Rattle.std.proofs.lemmas.List.{with_items_is}
use Rattle.hunk_words.specs.DebugInfo.{lists_of}
use Rattle.hunk_link.specs.Addend.{addend_of}
use Rattle.hunk_link.specs.Carried.{unless_stripped}
use Rattle.hunk_link.proofs.CarriedLemmas.{carried_hunk-is, kept, stripped}
use Rattle.hunk_link.proofs.carried.copied_hunk.Goals.{then-strip, else-strip+in_ok-copy_symbols, then-strip-2, else-strip-2+in_ok-copy_debugs}
use Rattle.hunk_link.proofs.carried.copied_hunk.Goals as goal

pub returns : goal.returns
returns g c =
    let hunk = c.args.hunk.now in
    let symbols : c.if-strip.drop.items ≡ unless_stripped c.args.strip hunk.symbols =
    elim c.if-strip.branch [
      | then-strip w ↦ stripped _ _ _ w.if-strip.true (ap (λ v. v.items) w.drop-is ∙ w.new.ensures.items)
      | else-strip+in_ok-copy_symbols w ↦ kept _ _ _ w.if-strip.false (ap (λ v. v.items) w.drop-is ∙ w.in_ok-copy_symbols.ensures)
    ] in
    let debugs : lists_of c.if-strip-2.result.items ≡ unless_stripped c.args.strip hunk.debugs =
    elim c.if-strip-2.branch [
      | then-strip-2 w ↦ stripped _ _ _ w.if-strip-2.true (ap (λ v. lists_of v.items) w.result-is ∙ ap (λ items. lists_of items) w.new-then-strip-2.ensures.items)
      | else-strip-2+in_ok-copy_debugs w ↦ kept _ _ _ w.if-strip-2.false (ap (λ v. lists_of v.items) w.result-is ∙ w.in_ok-copy_debugs.ensures)
    ] in
    let bytes : c.deref_mut.result.now ≡ hunk.content = c.deref_mut.ensures.value ∙ c.in_ok-content.ensures.items ∙ c.content.ensures.value in
    let content = with_items_is c.in_ok-content.content c.copied_sites.new.content (c.copied_sites.auto.content ∙ c.deref_mut.ensures.len) in
    carried_hunk-is (addend_of c.args.first c.args.references.now) c.args.strip hunk c.deref_mut.result.now c.sites.result.now c.size.result bytes c.sites.ensures.value c.size.ensures
    _ c.kind.ensures c.memory.ensures c.size-2.ensures (content ∙ c.in_ok-sites.ensures.content) c.in_ok-sites.ensures.sites symbols debugs
