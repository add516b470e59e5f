use Rattle.std.proofs.Common.{ap, ◌∙◌, arith}
use Rattle.hunk_words.specs.DebugInfo.{lists_of}
use Rattle.hunk_objects.proofs.UnitHunkLemmas.{lists_of-more}
use Rattle.hunk_objects.proofs.unit_hunk.UnitHunk.copy_debugs.Goals as goal

pub loop-words-preserved : goal.loop-words-preserved
loop-words-preserved g c =
    let i = c.loop-words.words-index in
    let held = c.loop-words.invariant in
    let copied = c.in_ok-from_slice.ensures.items ∙ c.deref.ensures.value in
    record {
      room = omega (arith, c.push_reserved.ensures.capacity, held.room);
      len = omega (arith, c.push_reserved.ensures.len, held.len);
      value = ap lists_of c.push_reserved.ensures.items ∙ lists_of-more c.loop-words.debugs.items c.deref-words-items.result.now i c.in_ok-from_slice.field-0 c.words-item.result c.loop-words-test.true held.value c.words-item.is copied;
    }
