use Rattle.std.proofs.Common.{◌^◌, ◌<◌, slice_index, EachIndex, refl}
use Rattle.std.proofs.lemmas.Result.{err_from_is_err_and}
use Rattle.std.proofs.Math.Facts.{Fits-lt-pow}
use Rattle.hunk_loader.specs.Places.{Placed, IsFirstRefusal}
use Rattle.hunk_loader.specs.declared.places.PlaceFault.TheVariants.{Overlap}
use Rattle.hunk_loader.proofs.PlacesOrderLemmas.{IsInEitherOrder-apart}
use Rattle.hunk_loader.proofs.PlacesLemmas.{Overlap-from_fit, Placed-from_fit, refusal-placed, refusal-refused, success-refused}
use Rattle.hunk_loader.proofs.places.check_sizes.Goals as goal

pub returns-in_err-are_in_order : goal.returns-in_err-are_in_order
returns-in_err-are_in_order g c =
    let sizes = g.S.Sizes.sizes c.args.sizes.now in
    let bases = c.args.bases.now in
    let fault = c.in_err-are_in_order.field-0.0 in
    let refused = c.in_err-are_in_order.ensures.refused in
    let p = err_from_is_err_and c.from_residual.result c.from_residual.ensures.1 in
    rw (p.1, p.2) (record { placed = refusal-placed sizes bases fault refused; refused = refusal-refused sizes bases fault refused })

pub returns-then-branch : goal.returns-then-branch
returns-then-branch g c =
    let sizes = g.S.Sizes.sizes c.args.sizes.now in
    let bases = c.args.bases.now in
    let addresses : EachIndex bases (λ hunk. slice_index bases hunk < 2 ^ 32) = λ hunk _. Fits-lt-pow (c.type_inv.bases hunk) in
    let placed : Placed sizes bases = Placed-from_fit sizes bases addresses c.in_ok-are_in_order.ensures.fit (IsInEitherOrder-apart sizes bases (c.in_ok-are_in_order.ensures.order.0 c.if-branch.true)) in
    record { placed = (λ _. placed, λ _. refl); refused = success-refused sizes bases placed }

pub returns-in-Some : goal.returns-in-Some
returns-in-Some g c =
    let sizes = g.S.Sizes.sizes c.args.sizes.now in
    let bases = c.args.bases.now in
    let fault = Overlap c.in-Some.earlier c.in-Some.later in
    let refused : IsFirstRefusal sizes bases fault = Overlap-from_fit sizes bases c.in-Some.earlier c.in-Some.later c.in_ok-are_in_order.ensures.fit c.in-Some.ensures in
    record { placed = refusal-placed sizes bases fault refused; refused = refusal-refused sizes bases fault refused }

pub returns-in-None : goal.returns-in-None
returns-in-None g c =
    let sizes = g.S.Sizes.sizes c.args.sizes.now in
    let bases = c.args.bases.now in
    let addresses : EachIndex bases (λ hunk. slice_index bases hunk < 2 ^ 32) = λ hunk _. Fits-lt-pow (c.type_inv.bases hunk) in
    let placed : Placed sizes bases = Placed-from_fit sizes bases addresses c.in_ok-are_in_order.ensures.fit c.in-None.ensures in
    record { placed = (λ _. placed, λ _. refl); refused = success-refused sizes bases placed }
