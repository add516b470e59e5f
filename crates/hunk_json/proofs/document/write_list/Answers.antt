-- One more element.
use Rattle.std.proofs.Common.{◌∙◌, ◌+◌, ◌∷◌, ap, drop, sym}
use Rattle.std.proofs.lemmas.List.{drop_all, drop_more}
use Rattle.hunk_json.proofs.DocumentLemmas.{Listing-all, Listing-more, Listing-none}
use Rattle.hunk_json.proofs.document.write_list.Goals as goal

pub loop-part-init : goal.loop-part-init
loop-part-init g c = Listing-none g.W.Sink.taken g.W.Sink.failed c.args.form (g.T.WriteJson.json c.args.form) c.args.parts.now c.put.ensures

pub loop-part-preserved : goal.loop-part-preserved
loop-part-preserved g c =
    let parts = c.args.parts.now in
    let index = c.loop-part.part-index in
    let part = c.part-item.result in
    let next = drop_more parts index part c.loop-part-test.true ∙ ap (λ first. first ∷ drop (index + 1) parts) (sym c.part-item.is) in
    Listing-more g.W.Sink.taken g.W.Sink.failed c.args.form (g.T.WriteJson.json c.args.form) part c.loop-part.invariant next c.write_json.ensures.utf8 c.write_comma.ensures c.write_json.ensures.puts

pub returns : goal.returns
returns g c =
    Listing-all g.W.Sink.taken g.W.Sink.failed c.args.form (g.T.WriteJson.json c.args.form) c.loop-part.invariant (drop_all c.loop-part.part-index c.args.parts.now c.loop-part-test.false) c.put-2.ensures
