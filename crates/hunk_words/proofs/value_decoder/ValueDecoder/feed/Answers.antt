use Rattle.std.proofs.Common.{◌++◌, sym, subst}
use Rattle.hunk_words.specs.Decoder.{StandsFor}
use Rattle.hunk_words.proofs.DecoderRefusalLemmas.{refuses-bytes}
use Rattle.hunk_words.proofs.value_decoder.ValueDecoder.feed.Goals as goal

pub invariant_of-self : goal.invariant_of-self
invariant_of-self g c = (c.self.invariant.0 ++ c.args.piece.now, c.feed.ensures.stands c.self.invariant.0 c.self.invariant.1)

pub returns-clause-stands : goal.returns-clause-stands
returns-clause-stands g c = λ bytes stands. c.feed.ensures.stands bytes (subst (λ d. StandsFor g.B.Taker.KIND g.B.Taker.stands_for d bytes) (sym c.self.view_is) stands)

pub returns-clause-refused : goal.returns-clause-refused
returns-clause-refused g c = refuses-bytes g.B.Taker.KIND g.B.Taker.stands_for c.feed.new.self c.feed.result c.feed.ensures.kept
