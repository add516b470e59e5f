use Rattle.hunk_words.specs.EventValue.Receiver.{to_debug}
use Rattle.hunk_words.specs.PartialHunk.{goes_to_content}
use Rattle.hunk_words.specs.Values.{with_tables, one_debug}
use Rattle.hunk_loadfile.specs.declared.hunk_builder.Receiver.TheVariants as Receiving
use Rattle.hunk_loadfile.proofs.HunkBuilderLemmas.{Builds-hunk}
use Rattle.std.proofs.Common.{[]}
use Rattle.hunk_loadfile.proofs.hunk_builder.HunkBuilder.begin_debug.Goals as goal

pub returns-in-Ok : goal.returns-in-Ok
returns-in-Ok g c = λ size told watch h.
    let hunk = with_tables told.hunk (one_debug []) in
    Builds-hunk c.args.self.now c.end_content.new.self Receiving.Debug told hunk to_debug watch watch.position.limit watch.seen h
    (c.end_content.ensures watch.position.limit watch.seen (goes_to_content told.receiver) hunk (c.in-Ok.ensures.takes watch.position.limit watch.seen (goes_to_content told.receiver) told.hunk h.hunk)) tt

pub returns-in-Err : goal.returns-in-Err
returns-in-Err g c = λ size told watch h.
    Builds-hunk c.args.self.now c.add_debug.new.self c.args.self.now.receiver told told.hunk told.receiver watch watch.position.limit watch.seen h
    (c.in-Err.ensures.refuses watch.position.limit watch.seen (goes_to_content told.receiver) told.hunk h.hunk) h.receiver
