-- Hunks that are loaded one after another.
use Rattle.std.proofs.Common.{◌≡◌, ℕ, ◌+◌, ◌-◌, ◌*◌, ◌<◌, ◌≤◌, List, [], ◌∷◌, ◌++◌, length, map, take, drop, replicate, slice_index, Vec, refl, sym, ap, ◌∙◌, arith}
use Rattle.std.specs.List.{zip}
use Rattle.std.proofs.lemmas.List.{append-nil, append_assoc, drop_all, drop_more, length-append, length-replicate, map-append}
use Rattle.hunk_base.specs.Sites.{StandFrom}
use Rattle.hunk_loadfile.specs.LoadHunk.{FileHunk}
use Rattle.hunk_loadfile.specs.Patching.{patched_bytes}
use Rattle.hunk_loadfile.specs.NormalForm.{nonzero_length, normal_form, normal_hunk}
use Rattle.hunk_loadfile.specs.Stripping.{stripped, stripped_hunk}
use Rattle.hunk_loadfile.specs.Trimming.{trimmed, trimmed_hunk}
use Rattle.hunk_loadfile.proofs.PatchingLemmas.{patched_bytes-alike, patched_bytes-filled}
use Rattle.hunk_loadfile.proofs.TrimmingLemmas.{patched_bytes-trimmed, slice_index-trimmed}
use Rattle.hunk_loader.specs.Image.{hunks_of}
use Rattle.hunk_loader.specs.Loading.{loaded_bytes}
use Rattle.hunk_loader.specs.Sizes.{sizes_of}

-- content that was padded with zeros, and then patched
pub patched_bytes-size : (bases content buffer patched : List ℕ) (limit size : ℕ) (sites : List (ℕ × ℕ)) → length content ≤ size → StandFrom 0 limit sites
    → buffer ≡ content ++ replicate (size - length content) 0 → patched ≡ patched_bytes (length buffer) buffer sites (slice_index bases)
    → patched ≡ patched_bytes size content sites (slice_index bases)
patched_bytes-size bases content buffer patched limit size sites fits apart filled is =
    let zeros : ℕ = size - length content in
    let counted : length buffer ≡ size = ap length filled ∙ omega (arith, length-append content (replicate zeros 0), length-replicate {A = ℕ} zeros 0) in
    is
    ∙ ap (λ count. patched_bytes count buffer sites (slice_index bases)) counted
    ∙ ap (λ bytes. patched_bytes size bytes sites (slice_index bases)) filled
    ∙ patched_bytes-filled limit size zeros content sites (slice_index bases) apart

-- the remaining hunks, loaded
abbrev pub loaded_from : List ℕ → List ℕ → List FileHunk → List (ℕ × List ℕ)
loaded_from all bases hunks = map (λ placed. (placed.0, loaded_bytes all placed.1)) (zip bases hunks)

-- no base is left
pub loaded_from-none : {A : Type 0} (bases : List ℕ) (all : List (ℕ × List ℕ)) (left : List FileHunk) (made : List (ℕ × Vec ℕ A)) (count : ℕ) → length bases ≤ count
    → hunks_of made ++ loaded_from bases (drop count bases) left ≡ all → hunks_of made ≡ all
loaded_from-none bases all left made count all_bases is =
    sym (append-nil (hunks_of made))
    ∙ ap (λ bs. hunks_of made ++ loaded_from bases bs left) (sym (drop_all count bases all_bases))
    ∙ is

-- one more hunk
pub loaded_from-more : {A : Type 0} (bases : List ℕ) (all : List (ℕ × List ℕ)) (left rest : List FileHunk) (made : List (ℕ × Vec ℕ A)) (base : ℕ) (hunk : FileHunk) (bytes : Vec ℕ A) (i : ℕ) → i < length bases
    → slice_index bases i ≡ base → left ≡ hunk ∷ rest → bytes.items ≡ loaded_bytes bases hunk
    → hunks_of made ++ loaded_from bases (drop i bases) left ≡ all
    → hunks_of (made ++ (base, bytes) ∷ []) ++ loaded_from bases (drop (i + 1) bases) rest ≡ all
loaded_from-more {A = A} bases all left rest made base hunk bytes i is_base at_base shown is_bytes is =
    let bases_left : drop i bases ≡ base ∷ drop (i + 1) bases = drop_more bases i 0 is_base ∙ ap (λ b. b ∷ drop (i + 1) bases) at_base in
    let others : List (ℕ × List ℕ) = loaded_from bases (drop (i + 1) bases) rest in
    let one : List (ℕ × Vec ℕ A) = (base, bytes) ∷ [] in
    ap (λ l. l ++ others) (map-append (λ h. (h.0, h.1.items)) made one)
    ∙ append_assoc (hunks_of made) (hunks_of one) others
    ∙ ap (λ b. hunks_of made ++ ((base, b) ∷ others)) is_bytes
    ∙ ap (λ hs. hunks_of made ++ loaded_from bases (base ∷ drop (i + 1) bases) hs) (sym shown)
    ∙ ap (λ bs. hunks_of made ++ loaded_from bases bs left) (sym bases_left)
    ∙ is

-- ---- hunks that are changed and have the same bytes in memory

module _ (change : FileHunk → FileHunk) (same : (all : List ℕ) (hunk : FileHunk) → loaded_bytes all (change hunk) ≡ loaded_bytes all hunk) (size : (hunk : FileHunk) → (change hunk).size ≡ hunk.size) where
  loaded-changed : (all bases : List ℕ) (hunks : List FileHunk) → loaded_from all bases (map change hunks) ≡ loaded_from all bases hunks
  loaded-changed all [] hunks = refl
  loaded-changed all (base ∷ bases) [] = refl
  loaded-changed all (base ∷ bases) (hunk ∷ hunks) =
      ap (λ bytes. (base, bytes) ∷ loaded_from all bases (map change hunks)) (same all hunk)
      ∙ ap (λ others. (base, loaded_bytes all hunk) ∷ others) (loaded-changed all bases hunks)

  sizes_of-changed : (hunks : List FileHunk) → sizes_of (map change hunks) ≡ sizes_of hunks
  sizes_of-changed [] = refl
  sizes_of-changed (hunk ∷ hunks) = ap (λ n. n ∷ sizes_of (map change hunks)) (size hunk) ∙ ap (λ sizes. hunk.size ∷ sizes) (sizes_of-changed hunks)

trimmed_bytes : (all : List ℕ) (hunk : FileHunk) → loaded_bytes all (trimmed_hunk hunk) ≡ loaded_bytes all hunk
trimmed_bytes all hunk = patched_bytes-trimmed (4 * hunk.size) hunk.content hunk.sites.entries (slice_index all)

pub loaded-trimmed : (all bases : List ℕ) (hunks : List FileHunk) → loaded_from all bases (trimmed hunks) ≡ loaded_from all bases hunks
loaded-trimmed = loaded-changed trimmed_hunk trimmed_bytes (λ hunk. refl)

pub sizes_of-trimmed : (hunks : List FileHunk) → sizes_of (trimmed hunks) ≡ sizes_of hunks
sizes_of-trimmed = sizes_of-changed trimmed_hunk trimmed_bytes (λ hunk. refl)

pub loaded-stripped : (all bases : List ℕ) (hunks : List FileHunk) → loaded_from all bases (stripped hunks) ≡ loaded_from all bases hunks
loaded-stripped = loaded-changed stripped_hunk (λ all hunk. refl) (λ hunk. refl)

pub sizes_of-stripped : (hunks : List FileHunk) → sizes_of (stripped hunks) ≡ sizes_of hunks
sizes_of-stripped = sizes_of-changed stripped_hunk (λ all hunk. refl) (λ hunk. refl)

normal_bytes : (all : List ℕ) (hunk : FileHunk) → loaded_bytes all (normal_hunk hunk) ≡ loaded_bytes all hunk
normal_bytes all hunk =
    patched_bytes-alike (4 * hunk.size) (take (nonzero_length hunk.content) hunk.content) hunk.content hunk.sites.entries (slice_index all) (slice_index-trimmed {T = ℕ} hunk.content [])

pub loaded-normal : (all bases : List ℕ) (hunks : List FileHunk) → loaded_from all bases (normal_form hunks) ≡ loaded_from all bases hunks
loaded-normal = loaded-changed normal_hunk normal_bytes (λ hunk. refl)

pub sizes_of-normal : (hunks : List FileHunk) → sizes_of (normal_form hunks) ≡ sizes_of hunks
sizes_of-normal = sizes_of-changed normal_hunk normal_bytes (λ hunk. refl)
