-- The bytes of the name, and the zeros that pad its longwords.
use Rattle.std.proofs.Common.{subst, sym}
use Rattle.hunk_base.specs.Text.{Puts}
use Rattle.hunk_base.proofs.TextLemmas.{Puts-then}
use Rattle.hunk_loadfile.proofs.LongwordWriterLemmas.{name_words-bytes}
use Rattle.hunk_loadfile.proofs.debug_writer.write_name.Goals as goal

pub returns : goal.returns
returns g c =
    let bytes = c.bytes-bytes.result.now in
    let parts = name_words-bytes c.args.name.now bytes c.longword_count.result c.bytes-bytes.ensures.value c.bytes-bytes.ensures.each c.longword_count.ensures in
    subst (λ t. Puts g.W.Sink.taken g.W.Sink.failed c.args.text.now c.put-2.new.self t) (sym parts) (Puts-then g.W.Sink.taken g.W.Sink.failed c.put.ensures c.put-2.ensures)
