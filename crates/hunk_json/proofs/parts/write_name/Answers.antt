-- The bytes are UTF-8, or they are not.
use Rattle.std.proofs.Common.{◌∙◌, ap}
use Rattle.serde_json.specs.Data.{string}
use Rattle.hunk_base.proofs.TextLemmas.{Puts-as}
use Rattle.hunk_json.specs.Document.{document}
use Rattle.hunk_json.proofs.FileJsonLemmas.{name-bytes, name-text}
use Rattle.hunk_json.proofs.parts.write_name.Goals as goal

pub returns-in-Ok : goal.returns-in-Ok
returns-in-Ok g c =
    let read = c.in-Ok.ensures.cases in
    Puts-as (ap (document c.args.form) (ap string read.0 ∙ name-text c.args.name.now read.1)) c.write_string.ensures

pub returns-in-Err : goal.returns-in-Err
returns-in-Err g c = Puts-as (ap (document c.args.form) (name-bytes c.args.name.now c.in-Err.ensures.cases.0)) c.write_list.ensures
