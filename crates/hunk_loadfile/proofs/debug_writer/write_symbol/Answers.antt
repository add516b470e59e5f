-- The length of the name, the name, and the value.
use Rattle.std.proofs.Common.{◌≡◌, ◌∙◌, ℕ, List, ap, length, subst, sym}
use Rattle.hunk_base.specs.Name.{longword_count}
use Rattle.hunk_base.specs.Text.{Puts}
use Rattle.hunk_base.proofs.TextLemmas.{Puts-then}
use Rattle.hunk_loadfile.proofs.LongwordWriterLemmas.{symbol-bytes}
use Rattle.hunk_loadfile.proofs.debug_writer.write_symbol.Goals as goal

pub returns : goal.returns
returns g c =
    let s = c.args.symbol.now in
    let counted : c.longword_count-count.result ≡ longword_count (length s.0) = c.longword_count-count.ensures ∙ ap (λ (n : List ℕ). longword_count (length n)) c.bytes.ensures.value in
    subst (λ text. Puts g.W.Sink.taken g.W.Sink.failed c.args.text.now c.write_longwords-2.new.text text) (sym (symbol-bytes s c.longword_count-count.result counted))
    (Puts-then g.W.Sink.taken g.W.Sink.failed c.write_longwords.ensures (Puts-then g.W.Sink.taken g.W.Sink.failed c.write_name.ensures c.write_longwords-2.ensures))
