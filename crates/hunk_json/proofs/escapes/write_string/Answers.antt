-- The quotes, and the characters between them.
use Rattle.std.proofs.Common.{sym}
use Rattle.hunk_base.proofs.TextLemmas.{◌⨾◌, Puts-as}
use Rattle.hunk_json.proofs.EscapesLemmas.{quoted-told}
use Rattle.hunk_json.proofs.escapes.write_string.Goals as goal

pub returns : goal.returns
returns g c = Puts-as (sym (quoted-told c.args.form c.args.string.now c.utf8.string)) (c.put.ensures ⨾ c.write_characters.ensures ⨾ c.put-2.ensures)
