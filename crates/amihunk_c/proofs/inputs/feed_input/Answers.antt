-- The input has one more piece, or is refused.
use Rattle.std.proofs.Common.{◌∙◌, ap, length, Vec, ℕ}
use Rattle.std.specs.Global.{Global}
use Rattle.amihunk_c.proofs.LinkingLemmas.{FeedsInput-refused, FeedsInput-taken}
use Rattle.amihunk_c.proofs.inputs.feed_input.Goals as goal

pub returns-in-Ok : goal.returns-in-Ok
returns-in-Ok c = FeedsInput-taken c.args.piece.now c.args.session.now c.in-Linking.linker c.feed.new.self c.plain.result c.in-Linking.is c.in-Ok.ensures.taken c.in-Ok.ensures.front c.plain.ensures

pub returns : goal.returns
returns c =
    FeedsInput-refused c.args.piece.now c.args.session.now c.refuse.new.session c.in-Linking.linker c.in-Err.refusal c.input_count.result c.input.result c.refuse.result c.in-Linking.is c.refuse.ensures.session c.refuse.ensures.answer c.input.ensures
    (c.input_count.ensures ∙ ap (λ (ends : Vec ℕ Global). length ends.items) c.in-Err.ensures.count) c.in-Err.ensures.refused
