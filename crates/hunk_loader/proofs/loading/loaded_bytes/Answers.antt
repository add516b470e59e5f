use Rattle.std.proofs.Common.{◌≡◌, ◌-◌, ◌*◌, ◌++◌, List, ℕ, ap, length, replicate, take, ◌∙◌, drop, vec_len, arith}
use Rattle.std.proofs.lemmas.List.{take_all, take_at}
use Rattle.hunk_loader.proofs.LoadingLemmas.{patched_bytes-size}
use Rattle.hunk_loader.proofs.loading.loaded_bytes.Goals as goal

pub returns : goal.returns
returns g c =
    let content : List ℕ = c.args.content.items in
    let size : ℕ = 4 * c.args.size in
    let patched : List ℕ = c.patch.new.bytes in
    let counted : vec_len c.args.content ≡ length content = omega (arith, c.args.content.ok.0) in
    let buffer : c.deref_mut.result.now ≡ content ++ replicate (size - length content) 0 =
    c.deref_mut.ensures.value
    ∙ c.in_ok-resize.ensures.items
    ∙ ap (λ count. take size content ++ replicate (size - count) 0) counted
    ∙ ap (λ (bytes : List ℕ). bytes ++ replicate (size - length content) 0) (take_all size content c.requires.fits) in
    take_at patched (drop (length patched) c.resize.new.self.items) c.resize.new.self.len (c.patch.auto.bytes ∙ c.deref_mut.ensures.len)
    ∙ patched_bytes-size c.args.bases.now content c.deref_mut.result.now patched c.args.sites.now.limit size c.args.sites.now.entries c.requires.fits c.requires.apart buffer c.patch.ensures
