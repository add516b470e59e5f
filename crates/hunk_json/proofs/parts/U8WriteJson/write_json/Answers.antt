-- The digits of the number.
use Rattle.std.proofs.Common.{◌∙◌, ap, sym}
use Rattle.std.specs.Fmt.{decimal}
use Rattle.hunk_base.proofs.TextLemmas.{Puts-as}
use Rattle.hunk_json.proofs.FileJsonLemmas.{natural-document, natural-utf8}
use Rattle.hunk_json.proofs.parts.U8WriteJson.write_json.Goals as goal

pub returns-clause-puts : goal.returns-clause-puts
returns-clause-puts g c = Puts-as (ap decimal c.from.ensures ∙ sym (natural-document c.args.form c.args.self.now)) c.put_decimal.ensures

pub returns-clause-utf8 : goal.returns-clause-utf8
returns-clause-utf8 g c = natural-utf8 c.args.self.now
