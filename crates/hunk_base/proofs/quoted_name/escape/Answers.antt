-- One more byte.
use Rattle.std.proofs.Common.{◌∙◌, ◌++◌, ap, get_or, length, sym, arith}
use Rattle.std.proofs.lemmas.List.{length-append}
use Rattle.hunk_base.specs.QuotedName.{escaped}
use Rattle.hunk_base.proofs.QuotedNameLemmas.{escaped_all-more, length-escaped-le}
use Rattle.hunk_base.proofs.quoted_name.escape.Goals as goal

pub loop-byte-preserved : goal.loop-byte-preserved
loop-byte-preserved c =
    let byte = get_or c.args.bytes.now c.loop-byte.byte-index 0 in
    record {
      room = omega (arith, ap length c.push_escaped.ensures, length-append c.loop-byte.block.items (escaped byte), length-escaped-le byte);
      escaped =
          c.push_escaped.ensures
          ∙ ap (λ front. front ++ escaped byte) c.loop-byte.invariant.escaped
          ∙ sym (escaped_all-more c.args.bytes.now c.loop-byte.byte-index c.loop-byte-test.true);
    }
