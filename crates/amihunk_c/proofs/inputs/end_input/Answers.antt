-- The input has ended, or is refused.
use Rattle.std.proofs.Common.{◌∙◌, ap, length, List, ℕ}
use Rattle.amihunk_c.proofs.LinkingLemmas.{EndsInput-refused, EndsInput-taken}
use Rattle.amihunk_c.proofs.inputs.end_input.Goals as goal

pub returns-in-Ok : goal.returns-in-Ok
returns-in-Ok c = EndsInput-taken c.args.session.now c.in-Linking.linker c.end_input.new.self c.plain.result c.in-Linking.is c.in-Ok.ensures.taken c.plain.ensures

pub returns : goal.returns
returns c =
    EndsInput-refused c.args.session.now c.refuse.new.session c.in-Linking.linker c.in-Err.refusal c.input_count.result c.input.result c.refuse.result c.in-Linking.is c.refuse.ensures.session c.refuse.ensures.answer c.input.ensures
    (c.input_count.ensures ∙ ap (λ (ends : List ℕ). length ends) c.in-Err.ensures.count) c.in-Err.ensures.refused
