use Rattle.hunk_loadfile.proofs.HunkBuilderLemmas.{Builds-value, Builds-no_value}
use Rattle.hunk_loadfile.proofs.hunk_builder.HunkBuilder.add_value.Goals as goal

pub returns-in-Err : goal.returns-in-Err
returns-in-Err g c = λ told watch h.
    Builds-no_value c.args.self.now c.add_symbol.new.self c.in-Symbol.name c.add_symbol.new.name c.args.value c.in-Err.error told watch c.in-Symbol.is c.in-Err.ensures.takes c.in-Err.ensures.name h

pub returns : goal.returns
returns g c = λ told watch h.
    Builds-value c.args.self.now c.add_symbol.new.self c.in-Symbol.name c.args.value c.in-Ok.field-0 told watch c.in-Symbol.is c.in-Ok.ensures.takes h
