-- What differs first, the byte or the site.
use Rattle.std.proofs.Common.{◌≡◌, ◌*◌, ◌∙◌, ℕ, min, Some, ap, sym, arith}
use Rattle.hunk_loadfile.specs.Difference.{with_bytes}
use Rattle.hunk_loadfile.specs.LoadHunk.{FileHunk}
use Rattle.hunk_loadfile.proofs.FirstDifferenceLemmas.{LiesInItsSize-with, first_site-same, inside-byte, inside-none, inside-site_alone, inside-site_before}
use Rattle.hunk_loadfile.proofs.LowestLemmas.{lower}
use Rattle.hunk_loadfile.proofs.difference.inside_difference.Goals as goal

pub returns-in-None-None : goal.returns-in-None-None
returns-in-None-None g c = λ content is.
    let sites = first_site-same c.args.first.now.sites c.args.second.now.sites c.first.inside.sites c.second.inside.sites c.first_site-site.result (ap (λ (hunk : FileHunk). hunk.sites) c.first.view_is) (ap (λ (hunk : FileHunk). hunk.sites) c.second.view_is) c.first_site-site.ensures in
    inside-none c.args.first.now (with_bytes c.args.second.now content) c.requires.size c.requires.first (LiesInItsSize-with c.args.first.now c.args.second.now content c.requires.size c.requires.first c.requires.limit is.within) c.args.number c.args.unlike c.first_site-site.result is.place c.in-None-None.is-0 sites c.in-None-None.is-1

pub returns-in-None-Some : goal.returns-in-None-Some
returns-in-None-Some g c = λ content is.
    let sites = first_site-same c.args.first.now.sites c.args.second.now.sites c.first.inside.sites c.second.inside.sites c.first_site-site.result (ap (λ (hunk : FileHunk). hunk.sites) c.first.view_is) (ap (λ (hunk : FileHunk). hunk.sites) c.second.view_is) c.first_site-site.ensures in
    ap Some c.site_difference.ensures
    ∙ inside-site_alone c.args.first.now (with_bytes c.args.second.now content) c.requires.size c.requires.first (LiesInItsSize-with c.args.first.now c.args.second.now content c.requires.size c.requires.first c.requires.limit is.within) c.args.number c.args.unlike c.first_site-site.result c.in-None-Some.offset is.place c.in-None-Some.is-0 sites c.in-None-Some.is-1

pub returns-in-Some-None : goal.returns-in-Some-None
returns-in-Some-None g c = λ content is.
    let sites = first_site-same c.args.first.now.sites c.args.second.now.sites c.first.inside.sites c.second.inside.sites c.first_site-site.result (ap (λ (hunk : FileHunk). hunk.sites) c.first.view_is) (ap (λ (hunk : FileHunk). hunk.sites) c.second.view_is) c.first_site-site.ensures in
    let u : ℕ × ℕ = (c.in-Some-None.offset, c.in-Some-None.byte) in
    ap Some c.byte_difference.ensures
    ∙ inside-byte c.args.first.now (with_bytes c.args.second.now content) c.requires.size c.requires.first (LiesInItsSize-with c.args.first.now c.args.second.now content c.requires.size c.requires.first c.requires.limit is.within) c.args.number c.args.unlike u c.first_site-site.result is.place c.in-Some-None.is-0 sites (ap (lower (Some u.0)) c.in-Some-None.is-1)

pub returns-then-offset-place : goal.returns-then-offset-place
returns-then-offset-place g c = λ content is.
    let sites = first_site-same c.args.first.now.sites c.args.second.now.sites c.first.inside.sites c.second.inside.sites c.first_site-site.result (ap (λ (hunk : FileHunk). hunk.sites) c.first.view_is) (ap (λ (hunk : FileHunk). hunk.sites) c.second.view_is) c.first_site-site.ensures in
    let u : ℕ × ℕ = (c.in-Some-Some.offset, c.in-Some-Some.byte) in
    let least : min c.in-Some-Some.place c.in-Some-Some.offset ≡ c.in-Some-Some.offset = omega arith in
    let end : lower (Some u.0) (Some c.in-Some-Some.place) ≡ Some u.0 = ap (λ (i : ℕ). Some i) least in
    ap Some c.byte_difference-then-offset-place.ensures
    ∙ inside-byte c.args.first.now (with_bytes c.args.second.now content) c.requires.size c.requires.first (LiesInItsSize-with c.args.first.now c.args.second.now content c.requires.size c.requires.first c.requires.limit is.within) c.args.number c.args.unlike u c.first_site-site.result is.place c.in-Some-Some.is-0 sites (ap (lower (Some u.0)) c.in-Some-Some.is-1 ∙ end)

pub returns-else-offset-place : goal.returns-else-offset-place
returns-else-offset-place g c = λ content is.
    let sites = first_site-same c.args.first.now.sites c.args.second.now.sites c.first.inside.sites c.second.inside.sites c.first_site-site.result (ap (λ (hunk : FileHunk). hunk.sites) c.first.view_is) (ap (λ (hunk : FileHunk). hunk.sites) c.second.view_is) c.first_site-site.ensures in
    let u : ℕ × ℕ = (c.in-Some-Some.offset, c.in-Some-Some.byte) in
    ap Some c.site_difference-else-offset-place.ensures
    ∙ inside-site_before c.args.first.now (with_bytes c.args.second.now content) c.requires.size c.requires.first (LiesInItsSize-with c.args.first.now c.args.second.now content c.requires.size c.requires.first c.requires.limit is.within) c.args.number c.args.unlike u c.first_site-site.result c.in-Some-Some.place is.place c.in-Some-Some.is-0 sites c.in-Some-Some.is-1 (omega arith)

pub first_site-site-requires : goal.first_site-site-requires
first_site-site-requires g c =
    ap (λ (hunk : FileHunk). hunk.sites.limit) c.first.view_is ∙ c.requires.first.limit ∙ ap (λ size. 4 * size) c.requires.size ∙ sym c.requires.limit
    ∙ sym (ap (λ (hunk : FileHunk). hunk.sites.limit) c.second.view_is)
