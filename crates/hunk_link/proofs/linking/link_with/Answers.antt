use Rattle.std.proofs.Common.{sym, subst, ◌∙◌, rules, arith}
use Rattle.std.proofs.lemmas.Grind.{common_steps}
use Rattle.std.proofs.lemmas.Result.{err_from_is_err_and}
use Rattle.hunk_link.specs.Limits.{IsHunkCount, IsSmall}
use Rattle.hunk_link.specs.Linkable.{IsFirstReason}
use Rattle.hunk_link.specs.OwnHunks.{AllNameOwnHunks, sites_of}
use Rattle.hunk_link.proofs.LinkingLemmas.{accepted-linked, carried-linked, linkable-linked, linked-all, reference_count-linked}
use Rattle.hunk_link.proofs.linking.link_with.Goals as goal

pub returns-in_err-addends-clause-refused : goal.returns-in_err-addends-clause-refused
returns-in_err-addends-clause-refused g c =
    let p = err_from_is_err_and c.from_residual-in_err-addends.result c.from_residual-in_err-addends.ensures.1 in
    let strip = c.args.strip in
    let all = c.deref.ensures.value ∙ c.in_ok-hunks.ensures.value in
    let limits = c.in_ok-total.ensures in
    rw (p.1, p.2) (subst (λ hunks. IsFirstReason hunks strip c.in_err-addends.field-0.0) all
    (c.in_err-addends.ensures.refused strip (subst IsHunkCount (sym all) limits.counted) (subst (IsSmall strip) (sym all) limits.small)))

pub copied_hunks-requires-clause-own : goal.copied_hunks-requires-clause-own
copied_hunks-requires-clause-own g c =
    subst (λ hunks. AllNameOwnHunks (sites_of hunks)) (c.deref.ensures.value ∙ sym c.deref-2.ensures.value) c.in_ok-addends.ensures.own

pub copied_hunks-requires-clause-counted : goal.copied_hunks-requires-clause-counted
copied_hunks-requires-clause-counted g c =
    let units = c.args.units.now in
    let named = c.in_ok-addends.ensures in
    let linked = linked-all units _ _ (c.deref.ensures.value ∙ c.in_ok-hunks.ensures.value) named.own named.once named.defined named.addends in
    reference_count-linked units c.args.strip _ linked _ _ (c.deref-2.ensures.value ∙ c.in_ok-hunks.ensures.value) c.deref-3.ensures.value

pub load_file-requires : goal.load_file-requires
load_file-requires g c =
    let units = c.args.units.now in
    let named = c.in_ok-addends.ensures in
    let limits = c.in_ok-total.ensures in
    let linked = linked-all units _ _ (c.deref.ensures.value ∙ c.in_ok-hunks.ensures.value) named.own named.once named.defined named.addends in
    accepted-linked units c.args.strip _ linked limits.counted limits.small limits.typed _
    (carried-linked units c.args.strip _ linked _ _ (c.deref-2.ensures.value ∙ c.in_ok-hunks.ensures.value) c.deref-3.ensures.value _ c.in_ok-carried.ensures)

pub returns-clause-linkable : goal.returns-clause-linkable
returns-clause-linkable g c =
    let units = c.args.units.now in
    let named = c.in_ok-addends.ensures in
    let limits = c.in_ok-total.ensures in
    let linked = linked-all units _ _ (c.deref.ensures.value ∙ c.in_ok-hunks.ensures.value) named.own named.once named.defined named.addends in
    linkable-linked units c.args.strip _ linked limits.counted limits.small

pub returns-clause-file : goal.returns-clause-file
returns-clause-file g c =
    let units = c.args.units.now in
    let named = c.in_ok-addends.ensures in
    let linked = linked-all units _ _ (c.deref.ensures.value ∙ c.in_ok-hunks.ensures.value) named.own named.once named.defined named.addends in
    c.load_file.ensures.value
    ∙ carried-linked units c.args.strip _ linked _ _ (c.deref-2.ensures.value ∙ c.in_ok-hunks.ensures.value) c.deref-3.ensures.value _ c.in_ok-carried.ensures

-- `grind` at once: `search`, which Rattle tries before it, is slow here
pub returns-clause-short : goal.returns-clause-short
returns-clause-short g c = grind (rules, arith, common_steps)
