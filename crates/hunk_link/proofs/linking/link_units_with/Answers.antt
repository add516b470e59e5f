use Rattle.std.proofs.Common.{ap, refl, sym, subst, ◌∙◌, arith}
use Rattle.std.proofs.lemmas.Grind.{common_steps}
use Rattle.std.proofs.lemmas.Result.{err_from_is_err_and}
use Rattle.std.specs.List.{All}
use Rattle.hunk_link.specs.Limits.{IsHunkCount, IsSmall}
use Rattle.hunk_link.specs.Linkable.{IsFirstReason}
use Rattle.hunk_link.specs.OwnHunks.{AllNameOwnHunks, sites_of}
use Rattle.hunk_link.specs.Ranks.{IsUnit, hunks_of}
use Rattle.hunk_link.proofs.LinkingLemmas.{accepted-linked, carried-linked, linkable-linked, linked-all, reference_count-linked}
use Rattle.hunk_link.proofs.linking.link_units_with.Goals as goal

pub returns-in_err-addends-clause-refused : goal.returns-in_err-addends-clause-refused
returns-in_err-addends-clause-refused g c =
    let p = err_from_is_err_and c.from_residual-in_err-addends.result c.from_residual-in_err-addends.ensures.1 in
    let strip = c.args.strip in
    let all = c.deref-3.ensures.value ∙ c.in_ok-hunks.ensures.value ∙ ap hunks_of c.deref-2.ensures.value in
    let seen = all ∙ ap hunks_of (sym c.deref.ensures.value) in
    let limits = c.in_ok-total.ensures in
    rw (p.1, p.2) (subst (λ hunks. IsFirstReason hunks strip c.in_err-addends.field-0.0) all
    (c.in_err-addends.ensures.refused strip (subst IsHunkCount (sym seen) limits.counted) (subst (IsSmall strip) (sym seen) limits.small)))

pub moved_hunks-requires-clause-own : goal.moved_hunks-requires-clause-own
moved_hunks-requires-clause-own g c =
    let all = c.deref-3.ensures.value ∙ c.in_ok-hunks.ensures.value ∙ ap hunks_of c.deref-2.ensures.value in
    subst (λ hunks. AllNameOwnHunks (sites_of hunks)) all c.in_ok-addends.ensures.own

pub moved_hunks-requires-clause-counted : goal.moved_hunks-requires-clause-counted
moved_hunks-requires-clause-counted g c =
    let units = c.args.units.items in
    let named = c.in_ok-addends.ensures in
    let all = c.deref-3.ensures.value ∙ c.in_ok-hunks.ensures.value ∙ ap hunks_of c.deref-2.ensures.value in
    let linked = linked-all units _ _ all named.own named.once named.defined named.addends in
    reference_count-linked units c.args.strip _ linked _ _ refl c.deref-4.ensures.value

pub load_file-requires : goal.load_file-requires
load_file-requires g c =
    let units = c.args.units.items in
    let strip = c.args.strip in
    let named = c.in_ok-addends.ensures in
    let limits = c.in_ok-total.ensures in
    let seen = c.deref.ensures.value in
    let all = c.deref-3.ensures.value ∙ c.in_ok-hunks.ensures.value ∙ ap hunks_of c.deref-2.ensures.value in
    let linked = linked-all units _ _ all named.own named.once named.defined named.addends in
    accepted-linked units strip _ linked (subst IsHunkCount (ap hunks_of seen) limits.counted) (subst (IsSmall strip) (ap hunks_of seen) limits.small) (subst (All IsUnit) seen limits.typed) _
    (carried-linked units strip _ linked _ _ refl c.deref-4.ensures.value _ c.in_ok-carried.ensures)

pub returns-clause-typed : goal.returns-clause-typed
returns-clause-typed g c = subst (All IsUnit) c.deref.ensures.value c.in_ok-total.ensures.typed

pub returns-clause-linkable : goal.returns-clause-linkable
returns-clause-linkable g c =
    let units = c.args.units.items in
    let strip = c.args.strip in
    let named = c.in_ok-addends.ensures in
    let limits = c.in_ok-total.ensures in
    let seen = ap hunks_of c.deref.ensures.value in
    let all = c.deref-3.ensures.value ∙ c.in_ok-hunks.ensures.value ∙ ap hunks_of c.deref-2.ensures.value in
    let linked = linked-all units _ _ all named.own named.once named.defined named.addends in
    linkable-linked units strip _ linked (subst IsHunkCount seen limits.counted) (subst (IsSmall strip) seen limits.small)

pub returns-clause-file : goal.returns-clause-file
returns-clause-file g c =
    let units = c.args.units.items in
    let named = c.in_ok-addends.ensures in
    let all = c.deref-3.ensures.value ∙ c.in_ok-hunks.ensures.value ∙ ap hunks_of c.deref-2.ensures.value in
    let linked = linked-all units _ _ all named.own named.once named.defined named.addends in
    c.load_file.ensures.value ∙ carried-linked units c.args.strip _ linked _ _ refl c.deref-4.ensures.value _ c.in_ok-carried.ensures

-- `grind` at once: `search`, which Rattle tries before it, is slow here
pub returns-in_err-total-clause-refused : goal.returns-in_err-total-clause-refused
returns-in_err-total-clause-refused g c = grind (arith, common_steps)

pub ranked_hunks-requires-clause-counted : goal.ranked_hunks-requires-clause-counted
ranked_hunks-requires-clause-counted g c = grind (arith, common_steps)

pub ranked_hunks-requires-clause-total : goal.ranked_hunks-requires-clause-total
ranked_hunks-requires-clause-total g c = grind (arith, common_steps)

pub moved_hunks-requires-clause-total : goal.moved_hunks-requires-clause-total
moved_hunks-requires-clause-total g c = grind (arith, common_steps)

pub moved_hunks-requires-clause-few : goal.moved_hunks-requires-clause-few
moved_hunks-requires-clause-few g c = grind (arith, common_steps)

pub returns-in_err-carried-clause-refused : goal.returns-in_err-carried-clause-refused
returns-in_err-carried-clause-refused g c = grind (arith, common_steps)

pub returns-clause-short : goal.returns-clause-short
returns-clause-short g c = grind (arith, common_steps)
