-- One more object file, and each exit.
use Rattle.std.proofs.Common.{ap, sym, subst, take, ◌∙◌, ◌+◌, List, Vec, ℕ}
use Rattle.std.specs.Global.{Global}
use Rattle.std.proofs.lemmas.Result.{err_from_is_err_and}
use Rattle.hunk_words.specs.Decoder.{RefusesInput}
use Rattle.hunk_words.specs.declared.event.FileKind.TheVariants.{Object}
use Rattle.hunk_objects.specs.ProgramUnit.{IsObjectOf, ObjectUnit}
use Rattle.hunk_loadfile.specs.Rules.{IsLoadFile}
use Rattle.hunk_tool.specs.Inputs.{AreObjects}
use Rattle.hunk_uses.specs.Assembler.{bytes_of_each}
use Rattle.hunk_uses.proofs.AssemblerLemmas.{AreObjects-all, AreObjects-next, IsLinked-written, IsNoObject-next, IsNotLinked-refused}
use Rattle.hunk_uses.proofs.assembler.link_objects.Goals as goal

pub returns-in-Err-Fault-clause-refused : goal.returns-in-Err-Fault-clause-refused
returns-in-Err-Fault-clause-refused c =
    let object = c.index-objects-file.result in
    let refused = subst (λ bytes. RefusesInput Object bytes c.in-Err-Fault.field-0) c.deref.ensures.value c.in-Err-Fault.ensures.refused in
    let same = c.in-Err-Fault.field-0-is in
    rw same
    (IsNoObject-next c.args.objects.now c.loop-file.file object c.loop-file.units.items c.in-Err-Fault.fault c.loop-file-test.true c.index-objects-file.is c.loop-file.invariant
    (subst (RefusesInput Object object.items) same refused))

pub loop-file-preserved : goal.loop-file-preserved
loop-file-preserved c =
    let object = c.index-objects-file.result in
    let objects = c.args.objects.now in
    let bytes_are = c.deref.ensures.value ∙ ap (λ (file : Vec ℕ Global). file.items) c.index-objects-file.is in
    let is = subst (IsObjectOf c.in-Ok.more.items) bytes_are c.in-Ok.ensures.read in
    subst (λ (units : List ObjectUnit). AreObjects (bytes_of_each (take (c.loop-file.file + 1) objects)) units) (sym c.in_ok-append-in-Ok.ensures.items)
    (AreObjects-next objects c.loop-file.file object c.loop-file.units.items c.in-Ok.more.items c.loop-file-test.true c.loop-file.invariant is)

pub returns-in_err-program-clause-refused : goal.returns-in_err-program-clause-refused
returns-in_err-program-clause-refused c =
    let p = err_from_is_err_and c.from_residual-in_err-program.result c.from_residual-in_err-program.ensures.1 in
    let are = AreObjects-all c.args.objects.now c.loop-file.file c.loop-file.units.items c.loop-file-test.false c.loop-file.invariant in
    rw (p.1, p.2) (IsNotLinked-refused _ c.loop-file.units.items c.in_err-program.field-0.0 are c.in_err-program.ensures.refused)

pub returns-clause-linked : goal.returns-clause-linked
returns-clause-linked c =
    let are = AreObjects-all c.args.objects.now c.loop-file.file c.loop-file.units.items c.loop-file-test.false c.loop-file.invariant in
    let linked = c.in_ok-program.ensures in
    IsLinked-written _ c.loop-file.units.items c.in_ok-program.program c.in_ok-written_bytes.field-0.items are linked.typed linked.linkable linked.file
    (subst IsLoadFile c.program.view_is c.program.invariant) linked.short c.in_ok-written_bytes.ensures
