use Rattle.std.proofs.Common.{refl}
use Rattle.hex.specs.Hex.{encode_with}
use Rattle.hunk_image_text.proofs.record.header.Goals as goal

pub returns : goal.returns
unfolding encode_with
returns c = refl
