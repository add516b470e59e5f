use Rattle.std.proofs.Common.{[]}
use Rattle.hunk_words.specs.EventValue.Receiver.{to_symbol}
use Rattle.hunk_words.specs.PartialHunk.{goes_to_content}
use Rattle.hunk_loadfile.specs.declared.hunk_builder.Receiver.TheVariants as Receiving
use Rattle.hunk_loadfile.proofs.HunkBuilderLemmas.{Builds-hunk}
use Rattle.hunk_loadfile.proofs.hunk_builder.HunkBuilder.begin_symbol.Goals as goal

pub returns : goal.returns
returns g c = λ told watch h.
    Builds-hunk c.args.self.now c.end_content.new.self (Receiving.Symbol c.new.result) told told.hunk (to_symbol []) watch watch.position.limit watch.seen h
    (c.end_content.ensures watch.position.limit watch.seen (goes_to_content told.receiver) told.hunk h.hunk) c.new.ensures
