-- The count of the longwords is that of the content.
use Rattle.std.proofs.Common.{◌≡◌, ◌∙◌, ap, sym}
use Rattle.hunk_base.specs.Longwords.{longwords}
use Rattle.hunk_words.specs.declared.kinds.HunkKind.{HunkKind}
use Rattle.hunk_words.specs.declared.kinds.HunkKind.TheVariants.{Code, Data}
use Rattle.hunk_loadfile.specs.LoadHunk.{FileHunk}
use Rattle.hunk_loadfile.specs.WrittenForm.{content_words}
use Rattle.hunk_loadfile.proofs.LongwordWriterLemmas.{content_words-code, content_words-data}
use Rattle.hunk_loadfile.proofs.load_writer.content_head.Goals as goal

pub returns-in-Code : goal.returns-in-Code
returns-in-Code g c =
    let h = c.args.hunk.now in
    let kind : Code ≡ h.kind = sym c.in-Code.is ∙ ap (λ (k : FileHunk). k.kind) c.hunk.view_is in
    content_words-code h.size c.stored.result h.content c.stored.ensures ∙ ap (λ (k : HunkKind). content_words k h.size (longwords h.content)) kind

pub returns-in-Data : goal.returns-in-Data
returns-in-Data g c =
    let h = c.args.hunk.now in
    let kind : Data ≡ h.kind = sym c.in-Data.is ∙ ap (λ (k : FileHunk). k.kind) c.hunk.view_is in
    content_words-data h.size c.stored-in-Data.result h.content c.stored-in-Data.ensures ∙ ap (λ (k : HunkKind). content_words k h.size (longwords h.content)) kind
