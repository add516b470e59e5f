-- The hunk is kept if the hunks are placed. Its bytes are those of the current hunk, padded with zeros and patched.
use Rattle.std.proofs.Common.{◌≡◌, ◌<◌, ◌+◌, ◌-◌, ◌++◌, List, ℕ, None, ap, drop, length, replicate, slice_index, take, refl, sym, subst, ◌∙◌, arith}
use Rattle.std.proofs.lemmas.List.{get_or_read_under, map-append, take_at}
use Rattle.std.specs.List.{All}
use Rattle.hunk_base.specs.Sites.{SiteMap}
use Rattle.hunk_words.specs.PartialHunk.{HunkSoFar, filled_hunk}
use Rattle.hunk_loadfile.specs.Patching.{patched_bytes}
use Rattle.hunk_loader.specs.Image.{hunks_of}
use Rattle.hunk_loader.specs.ImageBuilder.{KeepsHunk, NamesHunks, bytes_loaded, state_of}
use Rattle.hunk_loader.proofs.ImageBuilderHunkLemmas.{TakesEvent-end-placed, TakesEvent-end-unplaced}
use Rattle.hunk_loader.proofs.KeptMemoryLemmas.{IsBounded-takes}
use Rattle.hunk_loader.proofs.LoadingLemmas.{patched_bytes-size}
use Rattle.hunk_loader.proofs.image_builder.ImageBuilder.end_hunk.Given.{Over}
use Rattle.hunk_loader.proofs.image_builder.ImageBuilder.end_hunk.Goals as goal
use Rattle.hunk_loader.proofs.image_builder.ImageBuilder.end_hunk.Goals.{After-push_reserved}

pub patch-requires-clause-based : goal.patch-requires-clause-based
patch-requires-clause-based g c =
    let hunk : HunkSoFar ℕ = c.in-Some.current in
    let filled : c.replace-filled.result ≡ filled_hunk hunk = c.replace-filled.ensures.value ∙ c.in-Ok-fill.ensures.fills in
    let same = c.into_parts-bytes.ensures.sites ∙ ap (λ (h : HunkSoFar ℕ). h.sites) filled in
    let names : All (λ site. site.1 < length c.self.inside.sizes.items) hunk.sites.entries = subst (NamesHunks (length c.self.inside.sizes.items)) c.in-Some.is c.self.invariant.1 in
    subst (λ (sites : SiteMap ℕ). All (λ (site : ℕ × ℕ). site.1 < length c.deref.result.now) sites.entries) (sym same) (λ i site low. omega (arith, names i site low))

loaded : (g : Over) (c : After-push_reserved g)
    → take c.into_parts-bytes.result.0.len (c.patch.new.bytes ++ drop (length c.patch.new.bytes) c.into_parts-bytes.result.0.items) ≡ bytes_loaded c.self.inside.bases.items c.in-Some.current
loaded g c =
    let bases : List ℕ = c.self.inside.bases.items in
    let hunk : HunkSoFar ℕ = c.in-Some.current in
    let patched : List ℕ = c.patch.new.bytes in
    let buffer : List ℕ = c.deref_mut.result.now in
    let parts = c.into_parts-bytes in
    let filled : c.replace-filled.result ≡ filled_hunk hunk = c.replace-filled.ensures.value ∙ c.in-Ok-fill.ensures.fills in
    let bytes : buffer ≡ hunk.content ++ replicate (hunk.sites.limit - length hunk.content) 0 = c.deref_mut.ensures.value ∙ parts.ensures.content ∙ ap (λ (h : HunkSoFar ℕ). h.content) filled in
    let at_sites : patched ≡ patched_bytes (length buffer) buffer hunk.sites.entries (slice_index bases) =
    subst (λ (sites : SiteMap ℕ). patched ≡ patched_bytes (length buffer) buffer sites.entries (slice_index bases)) (parts.ensures.sites ∙ ap (λ (h : HunkSoFar ℕ). h.sites) filled) (rw c.deref.ensures.value at c.patch.ensures) in
    take_at patched (drop (length patched) parts.result.0.items) parts.result.0.len (c.patch.auto.bytes ∙ c.deref_mut.ensures.len)
    ∙ patched_bytes-size bases hunk.content buffer patched hunk.sites.limit hunk.sites.limit hunk.sites.entries c.fill.ensures.fits c.fill.ensures.apart bytes at_sites

keeps : (g : Over) (c : After-push_reserved g)
    → let m = state_of c.self.inside in
    KeepsHunk m (record m { made = hunks_of c.push_reserved.new.self.items; current = None; ended = m.ended + 1 })
keeps g c =
    let base : c.index-base.result.now ≡ slice_index c.self.inside.bases.items c.self.inside.ended =
    get_or_read_under c.self.inside.bases.items c.self.inside.ended (length c.self.inside.bases.items) c.index-base.result.now 0 c.index-base.ensures (omega arith) refl in
    record {
      hunk = c.in-Some.current;
      current = c.in-Some.is;
      based = omega arith;
      keeps = rw (c.push_reserved.ensures.items, c.in-Ok.ensures.items, map-append, base, loaded g c) refl;
    }

pub invariant_of-self-in_default-placing : goal.invariant_of-self-in_default-placing
invariant_of-self-in_default-placing g c = (IsBounded-takes _ _ _ _ (TakesEvent-end-unplaced _ _ _ c.in_default-placing.not-Placed c.in-Some.is refl) c.self.invariant.0, tt)

pub returns-in_default-placing : goal.returns-in_default-placing
returns-in_default-placing g c = rw (sym c.self.view_is) (TakesEvent-end-unplaced _ _ _ c.in_default-placing.not-Placed c.in-Some.is refl)

pub invariant_of-self-2 : goal.invariant_of-self-2
invariant_of-self-2 g c = (
  IsBounded-takes _ _ _ _ (TakesEvent-end-placed _ _ c.in-Placed.is (keeps g (goal.at.invariant_of-self-2 g c).After-push_reserved)) c.self.invariant.0,
  tt,
)

pub returns : goal.returns
returns g c = rw (sym c.self.view_is) (TakesEvent-end-placed _ _ c.in-Placed.is (keeps g (goal.at.returns g c).After-push_reserved))
