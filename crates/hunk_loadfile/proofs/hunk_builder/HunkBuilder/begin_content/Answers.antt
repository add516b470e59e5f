use Rattle.std.proofs.Common.{◌*◌, ◌∙◌, ap}
use Rattle.hunk_words.specs.PartialHunk.{goes_to_content}
use Rattle.hunk_loadfile.proofs.HunkBuilderLemmas.{Builds-hunk, Builds-content, size-context_after}
use Rattle.hunk_loadfile.proofs.hunk_builder.HunkBuilder.begin_content.Goals as goal

pub returns-then-not-begin_content : goal.returns-then-not-begin_content
returns-then-not-begin_content g c = λ bits size told watch h. rw c.never_told.ensures
    (Builds-hunk c.args.self.now c.begin_content.new.self c.args.self.now.receiver told told.hunk told.receiver watch watch.position.limit watch.seen h
    (c.begin_content.ensures.refuses watch.position.limit watch.seen (goes_to_content told.receiver) told.hunk h.hunk c.if-not-begin_content.true) h.receiver)

pub returns : goal.returns
returns g c = λ bits size told watch h.
    Builds-content c.args.self.now c.begin_content.new.self c.args.kind bits size c.bytes_in-limit.result c.of_block_type-kind.result told watch
    (c.bytes_in-limit.ensures ∙ ap (λ n. 4 * n) (c.size.ensures ∙ size-context_after c.args.self.now told watch h))
    c.of_block_type-kind.ensures
    (c.begin_content.ensures.takes watch.position.limit watch.seen (goes_to_content told.receiver) told.hunk bits size h.hunk c.if-not-begin_content.false) h
