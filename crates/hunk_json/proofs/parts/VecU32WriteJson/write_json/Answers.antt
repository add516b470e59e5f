-- The digits of the number of longwords.
use Rattle.std.proofs.Common.{◌≡◌, ◌∙◌, ap, arith, length, sym}
use Rattle.std.specs.Fmt.{decimal}
use Rattle.hunk_base.proofs.TextLemmas.{Puts-as}
use Rattle.hunk_json.proofs.FileJsonLemmas.{natural-document, natural-utf8}
use Rattle.hunk_json.proofs.parts.VecU32WriteJson.write_json.Goals as goal

pub returns-clause-puts : goal.returns-clause-puts
returns-clause-puts g c =
    let count : c.len.result ≡ length c.args.self.now.items = omega (arith, c.len.ensures, c.type_inv.self) in
    Puts-as (ap decimal count ∙ sym (natural-document c.args.form (length c.args.self.now.items))) c.put_decimal.ensures

pub returns-clause-utf8 : goal.returns-clause-utf8
returns-clause-utf8 g c = natural-utf8 (length c.args.self.now.items)
