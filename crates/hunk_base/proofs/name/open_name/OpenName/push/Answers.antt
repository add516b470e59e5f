use Rattle.std.proofs.Common.{[], ◌∷◌, ◌∙◌, sym, append-nil}
use Rattle.byteorder.specs.Endian.{big_bytes}
use Rattle.hunk_base.proofs.name.open_name.OpenName.push.Goals as goal

pub returns-clause-takes : goal.returns-clause-takes
returns-clause-takes g c = λ words opens. c.append.ensures.takes words (c.args.word ∷ []) (append-nil (big_bytes 4 c.args.word) ∙ sym c.big_endian.ensures) opens
