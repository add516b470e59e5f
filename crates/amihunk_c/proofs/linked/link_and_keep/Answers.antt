-- The units link to the bytes of their load file, or it is told why they do not; what is kept are the
-- units, and a load file of as many hunks.
use Rattle.std.proofs.Common.{◌∙◌, List, ap, length, refl, subst, sym, true}
use Rattle.hunk_link.specs.Carried.{carried}
use Rattle.hunk_loadfile.specs.LoadHunk.{FileHunk}
use Rattle.hunk_objects.specs.ProgramUnit.{ObjectUnit}
use Rattle.hunk_tool.specs.LinkOptions.{trimmed_if}
use Rattle.hunk_tool.proofs.LinkLemmas.{length-trimmed_if}
use Rattle.hunk_origins.proofs.MapLemmas.{length-origins-carried}
use Rattle.amihunk_c.specs.Linkers.{IsLinkStop}
use Rattle.amihunk_c.specs.declared.linker.LinkerOptions.{LinkerOptions}
use Rattle.amihunk_c.specs.declared.refused.Refused.{Refused}
use Rattle.amihunk_c.proofs.LinkerLemmas.{IsLinked-taken, IsLinkStop-memory, IsLinkStop-refused, memory-undefined}
use Rattle.amihunk_c.proofs.linked.link_and_keep.Goals as goal

pub invariant_of-result : goal.invariant_of-result
invariant_of-result c =
    let strip = c.args.options.strip in
    let linked = c.in-Ok.ensures.file ∙ ap (λ (us : List ObjectUnit). carried us strip) c.units.ensures in
    length-origins-carried c.args.files strip ∙ sym (ap (λ (hunks : List FileHunk). length hunks) linked)
    ∙ length-trimmed_if c.args.options.trim c.in-Ok.linked c.in-Ok-written.file c.in-Ok-written.ensures.file

pub returns-in-Ok-written-clause-linked : goal.returns-in-Ok-written-clause-linked
returns-in-Ok-written-clause-linked c = λ inputs taken.
    let strip = c.args.options.strip in
    let linked = c.in-Ok.ensures.file ∙ ap (λ (us : List ObjectUnit). carried us strip) c.units.ensures in
    record {
      bytes = IsLinked-taken inputs c.args.files c.units.result.now c.args.ends.now c.units.ensures taken c.args.options c.in-Ok.linked c.in-Ok-written.bytes.items
          c.in-Ok.ensures.typed c.in-Ok.ensures.linkable c.in-Ok.ensures.file c.in-Ok-written.ensures.load c.in-Ok-written.ensures.bytes;
      kept = (refl, record { units = taken.are; file = c.in-Ok-written.ensures.file ∙ ap (trimmed_if c.args.options.trim) linked });
    }

pub returns-in-Ok-clause-refused : goal.returns-in-Ok-clause-refused
returns-in-Ok-clause-refused c = λ inputs taken.
    let options : LinkerOptions = record { link = c.args.options; keep = true } in
    subst (λ (refused : Refused). IsLinkStop options inputs refused refused.fault) (sym c.memory.ensures)
    (IsLinkStop-memory inputs c.args.files c.units.result.now c.args.ends.now c.units.ensures taken options (c.in-Ok.ensures.linkable.counted, c.in-Ok.ensures.linkable.small))

pub returns-in-Ok-undefined_of-clause-refused : goal.returns-in-Ok-undefined_of-clause-refused
returns-in-Ok-undefined_of-clause-refused c = λ inputs taken.
    let options : LinkerOptions = record { link = c.args.options; keep = true } in
    let told = c.in-Ok-undefined_of.undefined in
    let refused = c.with_undefined.ensures ∙ ap (λ (r : Refused). record r { undefined = told }) c.link.ensures in
    subst (λ (refused : Refused). IsLinkStop options inputs refused refused.fault) (sym refused)
    (IsLinkStop-refused inputs c.args.files c.units.result.now c.args.ends.now c.units.ensures taken options c.in-Err.refusal told c.in-Err.ensures.refused (c.args.files, taken.are, c.in-Ok-undefined_of.ensures.told))

pub returns-clause-refused : goal.returns-clause-refused
returns-clause-refused c = λ inputs taken.
    let options : LinkerOptions = record { link = c.args.options; keep = true } in
    let first = memory-undefined c.units.result.now options.link.strip c.in-Err.refusal c.in-Err-undefined_of.ensures.failed c.in-Err.ensures.refused in
    subst (λ (refused : Refused). IsLinkStop options inputs refused refused.fault) (sym c.memory-in-Err-undefined_of.ensures)
    (IsLinkStop-memory inputs c.args.files c.units.result.now c.args.ends.now c.units.ensures taken options first)
