use Rattle.std.proofs.Common.{◌+◌, ◌-◌, ◌∷◌, [], ◌∙◌, ap, sym, length, arith}
use Rattle.std.proofs.Math.Facts.{Fits-lt-pow}
use Rattle.hunk_loadfile.specs.Patching.{patched_bytes}
use Rattle.hunk_loadfile.proofs.PatchingLemmas.{patched_bytes-unchanged, put_mid-added}
use Rattle.hunk_loadfile.proofs.patching.add_at.Goals as goal

pub returns : goal.returns
returns c =
    put_mid-added c.args.bytes.now c.write_u32.new.buf c.args.offset c.args.addend c.read_u32.result (c.args.offset + 4 - c.args.offset) (omega arith) c.requires c.read_u32.ensures c.write_u32.ensures

pub returns-then-addend-eq0 : goal.returns-then-addend-eq0
returns-then-addend-eq0 c =
    patched_bytes-unchanged c.args.bytes.now c.args.offset (λ i. Fits-lt-pow (c.type_inv.bytes i)) c.requires
    ∙ ap (λ addend. patched_bytes (length c.args.bytes.now) c.args.bytes.now ((c.args.offset, addend) ∷ []) (λ a. a)) (sym c.if-addend-eq0.true)
