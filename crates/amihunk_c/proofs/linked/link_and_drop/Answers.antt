-- The units link to the bytes of their load file, or it is told why they do not.
use Rattle.std.proofs.Common.{◌∙◌, None, false, refl, subst, sym}
use Rattle.amihunk_c.specs.Linkers.{IsLinkStop}
use Rattle.amihunk_c.specs.declared.linker.LinkerOptions.{LinkerOptions}
use Rattle.amihunk_c.specs.declared.refused.Refused.{Refused}
use Rattle.amihunk_c.proofs.LinkerLemmas.{IsLinked-taken, IsLinkStop-memory, IsLinkStop-refused, link_refused-plain}
use Rattle.amihunk_c.proofs.linked.link_and_drop.Goals as goal

pub returns-in-Ok-written-clause-linked : goal.returns-in-Ok-written-clause-linked
returns-in-Ok-written-clause-linked c = λ inputs taken. record {
  bytes = IsLinked-taken inputs c.args.files c.into_units.result.items c.args.ends.now c.into_units.ensures taken c.args.options c.in-Ok.linked c.in-Ok-written.bytes.items
      c.in-Ok.ensures.typed c.in-Ok.ensures.linkable c.in-Ok.ensures.file c.in-Ok-written.ensures.load c.in-Ok-written.ensures.bytes;
  kept = refl;
}

pub returns-in-Ok-clause-refused : goal.returns-in-Ok-clause-refused
returns-in-Ok-clause-refused c = λ inputs taken.
    let options : LinkerOptions = record { link = c.args.options; keep = false } in
    subst (λ (refused : Refused). IsLinkStop options inputs refused refused.fault) (sym c.memory.ensures)
    (IsLinkStop-memory inputs c.args.files c.into_units.result.items c.args.ends.now c.into_units.ensures taken options (c.in-Ok.ensures.linkable.counted, c.in-Ok.ensures.linkable.small))

pub returns-clause-refused : goal.returns-clause-refused
returns-clause-refused c = λ inputs taken.
    let options : LinkerOptions = record { link = c.args.options; keep = false } in
    subst (λ (refused : Refused). IsLinkStop options inputs refused refused.fault) (link_refused-plain c.in-Err.refusal c.args.ends.now ∙ sym c.link.ensures)
    (IsLinkStop-refused inputs c.args.files c.into_units.result.items c.args.ends.now c.into_units.ensures taken options c.in-Err.refusal None c.in-Err.ensures.refused refl)
