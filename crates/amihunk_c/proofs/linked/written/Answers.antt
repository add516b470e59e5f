-- The bytes that are written are a load file.
use Rattle.std.proofs.Common.{subst}
use Rattle.hunk_loadfile.specs.Rules.{IsLoadFile}
use Rattle.hunk_tool.specs.LinkOptions.{form_of}
use Rattle.hunk_tool.proofs.LinkLemmas.{linked_bytes-are_load}
use Rattle.amihunk_c.proofs.linked.written.Goals as goal

pub returns-clause-load : goal.returns-clause-load
returns-clause-load c =
    linked_bytes-are_load (form_of c.args.options) c.args.options.trim c.args.linked (subst IsLoadFile c.trimmed-file.ensures (subst IsLoadFile c.file.view_is c.file.invariant)) c.requires
