-- The type and the length, and then the content.
use Rattle.std.proofs.Common.{◌≡◌, ◌∙◌, ap, subst, sym}
use Rattle.hunk_base.specs.Text.{Puts}
use Rattle.hunk_base.proofs.TextLemmas.{Puts-then}
use Rattle.hunk_loadfile.specs.LoadHunk.{FileHunk}
use Rattle.hunk_loadfile.specs.Rules.{most_hunks}
use Rattle.hunk_loadfile.proofs.LoadWriterLemmas.{content-text}
use Rattle.hunk_loadfile.proofs.load_writer.write_content.Goals as goal

pub returns : goal.returns
returns g c =
    let h = c.args.hunk.now in
    let same : c.deref.result.now ≡ h.content = c.deref.ensures.value ∙ ap (λ (k : FileHunk). k.content) c.hunk.view_is in
    subst (λ text. Puts g.W.Sink.taken g.W.Sink.failed c.args.text.now c.put.new.self text) (sym (content-text most_hunks h c.content_head.result c.deref.result.now c.requires c.content_head.ensures same))
    (Puts-then g.W.Sink.taken g.W.Sink.failed c.write_longwords.ensures c.put.ensures)
