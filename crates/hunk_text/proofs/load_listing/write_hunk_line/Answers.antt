-- The line begins as that of any hunk, and then the stored longwords are told.
use Rattle.std.proofs.Common.{◌≡◌, ◌/◌, ◌∙◌, ℕ, List, ap, length, arith}
use Rattle.std.specs.Fmt.{decimal}
use Rattle.hunk_loadfile.specs.LoadHunk.{FileHunk}
use Rattle.hunk_base.proofs.TextLemmas.{◌⨾◌, Puts-as}
use Rattle.hunk_text.specs.Listing.{hunk_front}
use Rattle.hunk_text.proofs.load_listing.write_hunk_line.Goals as goal

abbrev front_of : ℕ → FileHunk → List ℕ
front_of number hunk = hunk_front number hunk.kind hunk.memory hunk.size

abbrev stored_of : FileHunk → List ℕ
stored_of hunk = decimal (length hunk.content / 4)

pub returns : goal.returns
returns g c =
    let bytes : c.len.result ≡ length c.hunk.inside.content.items = omega (arith, c.len.ensures, c.hunk.inside.content.ok.0) in
    let front = Puts-as (ap (front_of c.args.number) c.hunk.view_is) c.write_hunk_front.ensures in
    let stored = Puts-as (ap (λ count. decimal (count / 4)) bytes ∙ ap stored_of c.hunk.view_is) c.put_decimal.ensures in
    front ⨾ c.put.ensures ⨾ stored ⨾ c.put-2.ensures ⨾ c.end_line.ensures
