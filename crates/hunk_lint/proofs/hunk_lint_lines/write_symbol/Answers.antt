-- The pieces of the line, one after another.
use Rattle.std.proofs.Common.{◌≡◌, ◌*◌, true, ap, lt-ltb, arith}
use Rattle.hunk_base.specs.QuotedName.{quoted}
use Rattle.hunk_base.proofs.TextLemmas.{◌⨾◌, Puts-as}
use Rattle.hunk_lint.specs.HunkLintLines.{is_past}
use Rattle.hunk_lint.proofs.hunk_lint_lines.write_symbol.Goals as goal

pub returns-then-from-byte_count : goal.returns-then-from-byte_count
returns-then-from-byte_count g c =
    let past : is_past c.args.symbol.now.1 c.args.size ≡ true = lt-ltb (4 * c.args.size) c.args.symbol.now.1 (omega (arith, c.byte_count.ensures, c.from.ensures, c.if-from-byte_count.true)) in
    let name = Puts-as (ap quoted c.bytes.ensures.value) c.put_quoted.ensures in
    rw past
    (c.write_place.ensures ⨾ c.put.ensures ⨾ name ⨾ c.put-then-from-byte_count.ensures ⨾ c.put_longword.ensures ⨾ c.put-then-from-byte_count-2.ensures
    ⨾ c.write_bytes.ensures ⨾ c.end_line.ensures)
