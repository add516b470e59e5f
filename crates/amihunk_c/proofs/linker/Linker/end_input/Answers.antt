-- The input is an object file, and its units are behind those of the others.
use Rattle.std.proofs.Common.{◌++◌, ◌∷◌, [], List, ℕ, ap, ap₂, length, ◌∙◌}
use Rattle.hunk_objects.specs.ProgramUnit.{ObjectUnit}
use Rattle.hunk_tool.specs.ObjectFiles.{FileUnit, placed}
use Rattle.amihunk_c.specs.Linkers.{begun}
use Rattle.amihunk_c.specs.declared.linker.Linker.{Linker}
use Rattle.amihunk_c.proofs.LinkerLemmas.{HasTaken-ended}
use Rattle.amihunk_c.proofs.linker.Linker.end_input.Goals as goal

pub returns-in-Ok-push-clause-taken : goal.returns-in-Ok-push-clause-taken
returns-in-Ok-push-clause-taken c = λ options files current has.
    let rest = c.take_current-decoder.ensures.rest in
    let old = c.args.self.now in
    let more = c.in-Ok.units.items in
    HasTaken-ended options files current old
    (record { options = c.take_current-decoder.new.self.options; hasher = c.take_current-decoder.new.self.hasher; files = c.in-Ok-with_file.files; ends = c.push.new.self; current = c.take_current-decoder.new.self.current })
    more (begun current)
    (ap (λ (l : Linker). l.options) rest)
    (c.in-Ok-with_file.ensures
    ∙ ap₂ (λ (units : List FileUnit) (number : ℕ). units ++ placed number more)
    (c.replace-files.ensures.value ∙ ap (λ (l : Linker). l.files) rest)
    (c.len.ensures ∙ c.take_current-decoder.new.self.ends.ok.0 ∙ ap (λ (l : Linker). length l.ends.items) rest))
    (c.in-Ok-push.ensures.items ∙ ap (λ (l : Linker). l.ends.items ++ length c.units.result.now ∷ []) rest
    ∙ ap (λ (us : List ObjectUnit). old.ends.items ++ length us ∷ []) c.units.ensures)
    (ap (λ (l : Linker). l.current) rest)
    has
    (c.in-Ok.ensures.file (begun current) (c.take_current-decoder.ensures.stands current has.reads))
