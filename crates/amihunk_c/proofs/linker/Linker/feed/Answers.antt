-- What the decoder refuses, it refuses of the bytes of the current input.
use Rattle.amihunk_c.proofs.linker.Linker.feed.Goals as goal

pub returns-in-Err-clause-refused : goal.returns-in-Err-clause-refused
returns-in-Err-clause-refused c = λ options files current has. c.in-Err.ensures.refused _ (c.feed.ensures.stands _ (c.take_current-decoder.ensures.stands current has.reads))
