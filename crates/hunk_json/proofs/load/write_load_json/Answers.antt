-- The pieces of the object, one after another.
use Rattle.std.proofs.Common.{◌∙◌, append_assoc, sym}
use Rattle.hunk_base.proofs.TextLemmas.{◌⨾◌, Puts-as}
use Rattle.json.specs.Print.{escape_byte}
use Rattle.hunk_json.specs.FileJson.{load_json}
use Rattle.hunk_json.proofs.DocumentLemmas.{document-told}
use Rattle.hunk_json.proofs.FileJsonLemmas.{kind_load-document, load-told}
use Rattle.hunk_json.proofs.load.write_load_json.Goals as goal

pub returns : goal.returns
unfolding escape_byte
returns g c =
    let form = c.args.form in
    let hunks = c.args.hunks.now in
    let offsets = c.args.offsets.now in
    let pieces = c.put.ensures ⨾ c.write_hunks.ensures ⨾ c.put-2.ensures in
    Puts-as ((simp (append_assoc, kind_load-document)) ∙ sym (document-told form (load_json form offsets hunks) (load-told form offsets hunks))) pieces
