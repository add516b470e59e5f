use Rattle.std.proofs.Common.{◌∙◌, not, length-append, ap, arith}
use Rattle.hunk_loadfile.specs.ContentComparer.{unlike_in}
use Rattle.hunk_loadfile.specs.declared.content_comparer.ContentComparer.{ContentComparer}
use Rattle.hunk_loadfile.proofs.ContentComparerLemmas.{unlike_byte-none, unlike_byte-some}
use Rattle.hunk_loadfile.proofs.content_comparer.ContentComparer.take.Goals as goal
use Rattle.hunk_loadfile.proofs.content_comparer.ContentComparer.take.Goals.{then-is_none, else-is_none}

pub returns : goal.returns
returns c = λ content follows.
    let first = c.args.first.now in
    let bytes = c.args.bytes.now in
    record {
      count = omega (arith, c.saturating_add-count.ensures, c.if-count.false, follows.count, length-append content bytes);
      unlike = elim c.if-is_none.branch [
        | then-is_none w ↦
            ap (λ (comparer : ContentComparer). comparer.unlike) w.self-is ∙ w.unlike_behind-self.ensures ∙ ap (λ start. unlike_in first start bytes) follows.count
            ∙ unlike_byte-none first content bytes c.args.self.now.unlike follows.unlike (c.is_none.ensures ∙ ap not w.if-is_none.true)
        | else-is_none w ↦
            ap (λ (comparer : ContentComparer). comparer.unlike) w.self-is
            ∙ unlike_byte-some first content bytes c.args.self.now.unlike follows.unlike (c.is_none.ensures ∙ ap not w.if-is_none.false)
      ];
    }
