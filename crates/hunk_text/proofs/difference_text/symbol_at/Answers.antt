-- The hunk, and its symbol.
use Rattle.std.proofs.Common.{◌≡◌, ◌∙◌, List, ℕ, Option, None, Some, slice_get, ap, refl, length, sym}
use Rattle.std.proofs.lemmas.Option.{slice_get_past, slice_get_read}
use Rattle.hunk_loadfile.specs.LoadHunk.{FileHunk}
use Rattle.hunk_text.specs.DifferenceText.{symbol_of}
use Rattle.hunk_text.proofs.DifferenceTextLemmas.{slice_get-lent}
use Rattle.hunk_text.proofs.difference_text.symbol_at.Goals as goal

pub returns-in-Some : goal.returns-in-Some
returns-in-Some g c =
    let hunks = c.args.hunks.now in
    let hunk = c.in-Some.hunk.now in
    let index = c.args.index in
    let found : slice_get hunks c.args.hunk ≡ Some hunk = slice_get_read hunks (length hunks) c.args.hunk hunk refl c.in-Some.ensures.lookup.3.0 (c.in-Some.ensures.lookup.3.1 hunk) in
    let symbols : c.deref.result.now ≡ hunk.symbols = c.deref.ensures.value ∙ ap (λ (h : FileHunk). h.symbols) c.hunk.view_is in
    slice_get-lent c.deref.result.now index c.get-in-Some.result c.get-in-Some.ensures.lookup
    ∙ ap (λ (all : List (List ℕ × ℕ)). slice_get all index) symbols
    ∙ sym (ap (λ (of : Option FileHunk). symbol_of of index) found)

pub returns-in-None : goal.returns-in-None
returns-in-None g c =
    let past : slice_get c.args.hunks.now c.args.hunk ≡ None = slice_get_past c.args.hunks.now c.args.hunk c.in-None.ensures.lookup.3 in
    sym (ap (λ (hunk : Option FileHunk). symbol_of hunk c.args.index) past)
