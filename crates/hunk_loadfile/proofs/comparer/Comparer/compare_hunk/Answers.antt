use Rattle.std.proofs.Common.{◌≡◌, ◌∙◌, ℕ, List, Some, None, max, length, slice_get, ap, refl, subst, sym, arith}
use Rattle.std.proofs.lemmas.Option.{slice_get_past, slice_get_read}
use Rattle.hunk_loadfile.specs.Comparer.{content_of}
use Rattle.hunk_loadfile.specs.ContentComparer.{Follows}
use Rattle.hunk_loadfile.specs.Difference.{unlike_byte, with_bytes}
use Rattle.hunk_loadfile.specs.LoadHunk.{FileHunk}
use Rattle.hunk_loadfile.proofs.ComparisonLemmas.{HasFound-past}
use Rattle.hunk_loadfile.proofs.DifferenceLemmas.{LiesInItsSize-at}
use Rattle.hunk_loadfile.proofs.comparer.Comparer.compare_hunk.Goals as goal

pub end-unlike-requires : goal.end-unlike-requires
end-unlike-requires g c =
    let firsts = c.args.self.now.first in
    let first = c.in-Some.first.now in
    let lookup = c.in-Some.ensures.lookup in
    let is : slice_get firsts c.args.number ≡ Some first = ap (λ (hunks : List FileHunk). slice_get hunks c.args.number) (sym c.hunks.ensures.value) ∙ slice_get_read c.hunks.result.now (length c.hunks.result.now) c.args.number first refl lookup.3.0 lookup.1 in
    let fits = LiesInItsSize-at firsts c.args.number first c.hunks.ensures.valid is in
    let content : c.deref.result.now ≡ first.content = c.deref.ensures.value ∙ ap (λ (hunk : FileHunk). hunk.content) c.first.view_is in
    omega (arith, ap (λ (bytes : List ℕ). length bytes) content, fits.content, fits.small)

pub add_hunk-requires-clause-first : goal.add_hunk-requires-clause-first
add_hunk-requires-clause-first g c =
    let firsts = c.args.self.now.first in
    let first = c.in-Some.first.now in
    let lookup = c.in-Some.ensures.lookup in
    let is : slice_get firsts c.args.number ≡ Some first = ap (λ (hunks : List FileHunk). slice_get hunks c.args.number) (sym c.hunks.ensures.value) ∙ slice_get_read c.hunks.result.now (length c.hunks.result.now) c.args.number first refl lookup.3.0 lookup.1 in
    LiesInItsSize-at firsts c.args.number first c.hunks.ensures.valid is

pub returns-in-Some-clause-found : goal.returns-in-Some-clause-found
returns-in-Some-clause-found g c = λ seconds content h at within follows.
    let firsts = c.args.self.now.first in
    let first = c.in-Some.first.now in
    let lookup = c.in-Some.ensures.lookup in
    let is : slice_get firsts c.args.number ≡ Some first = ap (λ (hunks : List FileHunk). slice_get hunks c.args.number) (sym c.hunks.ensures.value) ∙ slice_get_read c.hunks.result.now (length c.hunks.result.now) c.args.number first refl lookup.3.0 lookup.1 in
    let bytes : c.deref.result.now ≡ first.content = c.deref.ensures.value ∙ ap (λ (hunk : FileHunk). hunk.content) c.first.view_is in
    let here : Follows c.args.self.now.content c.deref.result.now content = subst (λ (beside : List ℕ). Follows c.args.self.now.content beside content) (ap content_of is ∙ sym bytes) follows in
    c.add_hunk.ensures firsts seconds content h
    (record { within = within; place = c.end-unlike.ensures content here ∙ ap (λ (beside : List ℕ). unlike_byte beside content (max (length beside) (length content))) bytes }) at is

pub returns-in-None-clause-found : goal.returns-in-None-clause-found
returns-in-None-clause-found g c = λ seconds content h at within follows.
    let firsts = c.args.self.now.first in
    let past : slice_get firsts (length seconds) ≡ None =
    ap (λ (hunks : List FileHunk). slice_get hunks (length seconds)) (sym c.hunks.ensures.value) ∙ slice_get_past c.hunks.result.now (length seconds) (omega (arith, c.in-None.ensures.lookup.3, at)) in
    HasFound-past c.args.self.now.found firsts seconds (with_bytes c.args.second content) past h
