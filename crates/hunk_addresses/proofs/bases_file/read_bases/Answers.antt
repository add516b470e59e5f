-- The bytes of one more read follow those before.
use Rattle.std.proofs.Common.{◌≤◌, ◌++◌, arith, length, take}
use Rattle.std.proofs.lemmas.Grind.{common_steps}
use Rattle.std.proofs.lemmas.Result.{IfErr-weaker, IfOk-weaker, err_from_is_err_and}
use Rattle.std.proofs.KnownBytes.{Consumes-trans}
use Rattle.hunk_addresses.proofs.BasesFileLemmas.{file_fault, more_bytes, read-ended}
use Rattle.hunk_addresses.proofs.bases_file.read_bases.Goals as goal

pub returns-then-count-eq0-clause-numbers : goal.returns-then-count-eq0-clause-numbers
returns-then-count-eq0-clause-numbers g c =
    let read = c.reads.invariant in
    let short : length read.bytes ≤ 16777216 = omega (arith, read.room_is) in
    let consumed = read-ended _ _ _ read.bytes _ _ c.if-count-eq0.true read.consumed c.in_ok-count.ensures.bytes in
    IfOk-weaker c.finish.result _ _ (λ bases numbers. record {
      bytes = read.bytes;
      consumed = consumed;
      holds = numbers read.bytes read.stands short;
    }) c.finish.ensures.numbers

pub returns-then-count-eq0-clause-refused : goal.returns-then-count-eq0-clause-refused
returns-then-count-eq0-clause-refused g c =
    let read = c.reads.invariant in
    let consumed = read-ended _ _ _ read.bytes _ _ c.if-count-eq0.true read.consumed c.in_ok-count.ensures.bytes in
    IfErr-weaker c.finish.result _ _ (λ fault is. file_fault _ _ _ fault (record {
      bytes = read.bytes;
      consumed = consumed;
      holds = is read.bytes read.stands;
    })) c.finish.ensures.rejected

pub returns-then-count-room-clause-refused : goal.returns-then-count-room-clause-refused
returns-then-count-room-clause-refused g c =
    let read = c.reads.invariant in
    let longer = more_bytes read.bytes c.read.new.buffer c.in_ok-count.count (omega (arith, c.in_ok-count.ensures.count, c.read.auto.buffer)) in
    record {
      bytes = read.bytes ++ take c.in_ok-count.count c.read.new.buffer;
      consumed = Consumes-trans _ _ _ read.bytes _ read.consumed c.in_ok-count.ensures.bytes;
      holds = omega (arith, longer, read.room_is, c.if-count-room.true);
    }

pub returns-in_err-feed-clause-refused : goal.returns-in_err-feed-clause-refused
returns-in_err-feed-clause-refused g c =
    let p = err_from_is_err_and c.from_residual-in_err-feed.result c.from_residual-in_err-feed.ensures.1 in
    let read = c.reads.invariant in
    rw (p.1, p.2) (file_fault _ _ _ _ (record {
      bytes = read.bytes ++ take c.in_ok-count.count c.read.new.buffer;
      consumed = Consumes-trans _ _ _ read.bytes _ read.consumed c.in_ok-count.ensures.bytes;
      holds = c.in_err-feed.ensures.rejected read.bytes read.stands;
    }))

pub reads-preserved : goal.reads-preserved
reads-preserved g c =
    let read = c.reads.invariant in
    let longer = more_bytes read.bytes c.read.new.buffer c.in_ok-count.count (omega (arith, c.in_ok-count.ensures.count, c.read.auto.buffer)) in
    record {
      bytes = read.bytes ++ take c.in_ok-count.count c.read.new.buffer;
      consumed = Consumes-trans _ _ _ read.bytes _ read.consumed c.in_ok-count.ensures.bytes;
      stands = c.in_ok-feed.ensures.stands read.bytes read.stands;
      room_is = omega (arith, longer, read.room_is, c.if-count-room.false);
      many = omega (arith, longer, read.many, c.if-count-eq0.false);
    }

-- `grind` at once: `search`, which Rattle tries before it, is slow here
pub returns-then-count-eq0-clause-ended : goal.returns-then-count-eq0-clause-ended
returns-then-count-eq0-clause-ended g c = grind (arith, common_steps)

pub slice_bounds-feed-end : goal.slice_bounds-feed-end
slice_bounds-feed-end g c = grind (arith, common_steps)
