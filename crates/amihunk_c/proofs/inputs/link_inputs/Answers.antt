-- The inputs do not link.
use Rattle.amihunk_c.proofs.LinkingLemmas.{Links-refused, not-true}
use Rattle.amihunk_c.proofs.inputs.link_inputs.Goals as goal

pub returns : goal.returns
returns c =
    Links-refused c.args.session.now c.refuse.new.session c.in-Linking.linker c.in-Err.refused c.refuse.result c.in-Linking.is (λ some. not-true (c.if-is_reading.ensures.1 some)) c.refuse.ensures.session c.in-Err.ensures.refused c.refuse.ensures.answer
