use Rattle.std.proofs.Common.{◌≡◌, ◌≤◌, ◌*◌, ℕ, length, sym, ap, subst, ◌∙◌, arith}
use Rattle.std.proofs.lemmas.List.{with_items_is}
use Rattle.std.specs.List.{All}
use Rattle.hunk_words.specs.DebugInfo.{lists_of}
use Rattle.hunk_base.specs.Sites.{SiteMap}
use Rattle.hunk_words.specs.declared.kinds.HunkKind.{HunkKind}
use Rattle.hunk_words.specs.declared.kinds.HunkKind.TheVariants.{Bss, Code, Data}
use Rattle.hunk_objects.specs.UnitHunk.{ObjectHunk, content_bytes}
use Rattle.hunk_objects.specs.declared.unit_hunk.Adds.{Adds}
use Rattle.hunk_link.specs.Addend.{addend_of}
use Rattle.hunk_link.specs.Carried.{IsKnown, unless_stripped}
use Rattle.hunk_link.proofs.CarriedLemmas.{carried_hunk-is, kept, stripped}
use Rattle.hunk_link.proofs.carried.moved_hunk.Goals.{then-strip, else-strip}
use Rattle.hunk_link.proofs.carried.moved_hunk.Goals as goal

pub moved_sites-requires-clause-known : goal.moved_sites-requires-clause-known
moved_sites-requires-clause-known g c =
    subst (λ (sites : SiteMap Adds). All (λ site. IsKnown c.args.first (length c.args.references.now) site.1) sites.entries) (sym c.into_parts-kind.ensures.sites) c.requires

content_bytes-le : (kind : HunkKind) (size : ℕ) → content_bytes kind size ≤ 4 * size
content_bytes-le Bss size = omega arith
content_bytes-le Code size = omega arith
content_bytes-le Data size = omega arith

pub moved_sites-requires-clause-within : goal.moved_sites-requires-clause-within
moved_sites-requires-clause-within g c =
    let hunk : ObjectHunk = c.args.hunk in
    let parts = c.into_parts-kind.ensures in
    omega (arith, ap (λ (sites : SiteMap Adds). sites.limit) parts.sites, parts.valid.limit, parts.valid.whole, content_bytes-le hunk.kind hunk.size, parts.size)

pub returns : goal.returns
returns g c =
    let hunk = c.args.hunk in
    let parts = c.into_parts-kind.ensures in
    let symbols : c.if-strip.symbols.items ≡ unless_stripped c.args.strip hunk.symbols =
    elim c.if-strip.branch [
      | then-strip w ↦ stripped _ _ _ w.if-strip.true (ap (λ v. v.items) w.symbols-is ∙ w.new-symbols.ensures.items)
      | else-strip w ↦ kept _ _ _ w.if-strip.false (ap (λ v. v.items) w.symbols-is ∙ parts.symbols)
    ] in
    let debugs : lists_of c.if-strip.debugs.items ≡ unless_stripped c.args.strip hunk.debugs =
    elim c.if-strip.branch [
      | then-strip w ↦ stripped _ _ _ w.if-strip.true (ap (λ v. lists_of v.items) w.debugs-is ∙ ap (λ items. lists_of items) w.new-debugs.ensures.items)
      | else-strip w ↦ kept _ _ _ w.if-strip.false (ap (λ v. lists_of v.items) w.debugs-is ∙ parts.debugs)
    ] in
    let content = with_items_is c.into_parts-kind.result.content c.moved_sites.new.content (c.moved_sites.auto.content ∙ c.deref_mut.ensures.len) in
    carried_hunk-is (addend_of c.args.first c.args.references.now) c.args.strip hunk c.deref_mut.result.now c.into_parts-kind.result.sites c.into_parts-kind.result.size
    (c.deref_mut.ensures.value ∙ parts.content) parts.sites parts.size
    _ parts.kind parts.memory parts.size (content ∙ c.in_ok-sites.ensures.content) c.in_ok-sites.ensures.sites symbols debugs
