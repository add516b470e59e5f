use Rattle.std.proofs.Common.{map, ap, ◌∙◌}
use Rattle.std.specs.Char.{to_ascii_uppercase}
use Rattle.hunk_image_text.proofs.RecordLemmas.{uppercase-encode_lower}
use Rattle.hunk_image_text.proofs.hex_digits.put_upper_digits.Goals as goal

pub returns : goal.returns
returns c =
    c.make_ascii_uppercase.ensures.after ∙ ap (map to_ascii_uppercase) c.put_digits.ensures ∙ uppercase-encode_lower c.args.bytes.now
