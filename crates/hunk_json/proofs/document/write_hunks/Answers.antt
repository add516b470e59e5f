-- One more hunk.
use Rattle.std.proofs.Common.{◌≡◌, ◌∙◌, ◌+◌, ◌∷◌, List, ap, drop, slice_index, sym}
use Rattle.std.proofs.lemmas.List.{drop_all, drop_more}
use Rattle.hunk_json.specs.Document.{document}
use Rattle.hunk_json.specs.FileJson.{hunk_json, hunks_at}
use Rattle.hunk_json.proofs.DocumentLemmas.{Listing-all, Listing-more, Listing-none}
use Rattle.hunk_base.proofs.TextLemmas.{Puts-as}
use Rattle.hunk_json.proofs.document.write_hunks.Goals as goal

pub loop-hunk-init : goal.loop-hunk-init
loop-hunk-init g c = Listing-none g.W.Sink.taken g.W.Sink.failed c.args.form (hunk_json (g.T.WriteHunk.json c.args.form)) (hunks_at c.args.offsets.now c.args.hunks.now) c.put.ensures

pub loop-hunk-preserved : goal.loop-hunk-preserved
loop-hunk-preserved g c =
    let form = c.args.form in
    let value = g.T.WriteHunk.json form in
    let hunks = c.args.hunks.now in
    let index = c.loop-hunk.hunk-index in
    let hunk = c.hunk-item.result in
    let left = c.loop-hunk.left.now in
    let rest = drop (index + 1) hunks in
    let behind = drop_more hunks index hunk c.loop-hunk-test.true ∙ ap (λ first. first ∷ rest) (sym c.hunk-item.is) in
    let next = ap (hunks_at left) behind ∙ ap (λ offsets. (slice_index left 0, hunk) ∷ hunks_at offsets rest) (sym c.offsets_behind-left.ensures) in
    let offset = c.first_offset.ensures in
    let wrote = Puts-as (ap (λ at. document form (value at hunk)) offset) c.write_hunk.ensures.puts in
    Listing-more g.W.Sink.taken g.W.Sink.failed form (hunk_json value) (slice_index left 0, hunk) c.loop-hunk.invariant next (rw (sym offset) c.write_hunk.ensures.utf8) c.write_comma.ensures wrote

pub returns : goal.returns
returns g c =
    let done = ap (hunks_at c.loop-hunk.left.now) (drop_all c.loop-hunk.hunk-index c.args.hunks.now c.loop-hunk-test.false) in
    Listing-all g.W.Sink.taken g.W.Sink.failed c.args.form (hunk_json (g.T.WriteHunk.json c.args.form)) c.loop-hunk.invariant done c.put-2.ensures
