-- The pieces, one after another.
use Rattle.std.proofs.Common.{◌≡◌, ◌∙◌, ◌==◌, true, false, ap, ap₂, sym}
use Rattle.std.specs.Cmp.Lexicographic.{pointwise}
use Rattle.hunk_base.specs.QuotedName.{quoted}
use Rattle.hunk_base.proofs.TextLemmas.{◌⨾◌, Puts-as}
use Rattle.hunk_text.proofs.difference_text.write_unlike.Goals as goal

pub returns-then-eq : goal.returns-then-eq
returns-then-eq g c =
    let same : pointwise ◌==◌ c.args.first.now.0 c.args.second.now.0 ≡ true = ap₂ (pointwise ◌==◌) (sym c.bytes-name.ensures.value) (sym c.bytes-other.ensures.value) ∙ sym c.eq.ensures ∙ c.if-eq.true in
    let name = Puts-as (ap quoted c.bytes-name.ensures.value) c.put_quoted.ensures in
    rw same (name ⨾ c.put.ensures ⨾ (c.put_longword.ensures ⨾ c.put-then-eq.ensures ⨾ c.put_longword-then-eq.ensures))

pub returns-else-eq : goal.returns-else-eq
returns-else-eq g c =
    let same : pointwise ◌==◌ c.args.first.now.0 c.args.second.now.0 ≡ false = ap₂ (pointwise ◌==◌) (sym c.bytes-name.ensures.value) (sym c.bytes-other.ensures.value) ∙ sym c.eq.ensures ∙ c.if-eq.false in
    let name = Puts-as (ap quoted c.bytes-name.ensures.value) c.put_quoted.ensures in
    let other = Puts-as (ap quoted c.bytes-other.ensures.value) c.put_quoted-else-eq.ensures in
    rw same (name ⨾ c.put-else-eq.ensures ⨾ other)
