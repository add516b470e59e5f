-- The bytes are those of the load file.
use Rattle.std.proofs.Common.{◌∙◌, subst}
use Rattle.hunk_loadfile.specs.Rules.{IsLoadFile}
use Rattle.hunk_tool.proofs.LinkLemmas.{IsLinked-written, bytes-chosen}
use Rattle.hunk_tool.proofs.link.link_to_vec.Goals as goal

pub returns-clause-ok : goal.returns-clause-ok
returns-clause-ok g c =
    let bytes = bytes-chosen c.args.options c.in_ok-linked.linked c.trimmed-file.result c.form.result c.form.ensures c.trimmed-file.ensures in
    IsLinked-written _ c.args.globals c.args.options c.in_ok-linked.linked _ _ c.in_ok-linked.ensures.linked (subst IsLoadFile c.trimmed-file.ensures (subst IsLoadFile c.file.view_is c.file.invariant)) c.in_ok-linked.ensures.short
    (c.in_ok-written_bytes.ensures ∙ bytes)
