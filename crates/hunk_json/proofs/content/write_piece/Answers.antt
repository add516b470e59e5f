-- There is room for all symbols.
use Rattle.std.proofs.Common.{◌≤◌, arith, length}
use Rattle.base64.specs.Engines.{standard}
use Rattle.base64.specs.GeneralPurpose.{encoded_size_of}
use Rattle.hunk_base.proofs.TextLemmas.{Puts-as}
use Rattle.hunk_json.proofs.ContentLemmas.{taken-symbols}
use Rattle.hunk_json.proofs.content.write_piece.Goals as goal

pub returns : goal.returns
returns g c =
    let room : encoded_size_of standard (length c.args.piece.now) ≤ 256 = omega (arith, c.requires) in
    Puts-as (taken-symbols c.args.piece.now _ c.encode_slice.new.output c.encode_slice.result c.unwrap_or-count.result (c.encode_slice.ensures.fits room) c.unwrap_or-count.ensures c.encode_slice.ensures.written) c.put.ensures
