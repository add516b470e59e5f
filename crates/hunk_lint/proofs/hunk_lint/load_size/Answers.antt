-- The hunk, and its size.
use Rattle.std.proofs.Common.{◌≡◌, ◌∙◌, ℕ, Option, Some, slice_get, option_map, ap, refl, length, sym}
use Rattle.std.proofs.lemmas.Option.{slice_get_past, slice_get_read}
use Rattle.hunk_loadfile.specs.LoadHunk.{FileHunk}
use Rattle.hunk_lint.proofs.hunk_lint.load_size.Goals as goal

abbrev size_of : Option FileHunk → Option ℕ
size_of hunk = option_map (λ (h : FileHunk). h.size) hunk

pub returns-in-Some : goal.returns-in-Some
returns-in-Some g c =
    let hunks = c.args.hunks.now in
    let hunk = c.in-Some.hunk.now in
    let found : slice_get hunks c.args.number ≡ Some hunk = slice_get_read hunks (length hunks) c.args.number hunk refl c.in-Some.ensures.lookup.3.0 (c.in-Some.ensures.lookup.3.1 hunk) in
    ap (λ (h : FileHunk). size_of (Some h)) c.hunk.view_is ∙ sym (ap size_of found)

pub returns-in-None : goal.returns-in-None
returns-in-None g c = sym (ap size_of (slice_get_past c.args.hunks.now c.args.number c.in-None.ensures.lookup.3))
