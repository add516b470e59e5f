-- Sites of one target: the walk over them, and the block with their only group.
use Rattle.std.proofs.Common.{◌≡◌, ◌+◌, ◌*◌, ◌-◌, ◌<◌, ◌≤◌, ◌^◌, ◌∙◌, ℕ, suc, List, [], ◌∷◌, ◌++◌, length, map, take, drop, get_or, set, ap, sym, subst, refl, append-nil, append_assoc, arith}
use Rattle.std.proofs.lemmas.List.{length-append, length-map, map-append, take_all, take_more_set}
use Rattle.std.proofs.lemmas.List.Elements.{All-cons, All-nil, All-take}
use Rattle.std.proofs.Math.Seq.{drop-append_seam, drop-cons, take-add, take-append_seam, take-suc}
use Rattle.std.specs.List.{All}
use Rattle.std.specs.List.Sorted.{IsNonDecreasingBy}
use Rattle.hunk_loadfile.specs.declared.number_width.NumberWidth.{NumberWidth}
use Rattle.hunk_loadfile.specs.NumberWidth.{block_type, bytes_in, width_bytes}
use Rattle.hunk_loadfile.specs.RelocationWriter.{IsGroup, block_bytes, block_end}
use Rattle.hunk_loadfile.specs.WrittenForm.{group_words, groups_words}
use Rattle.hunk_base.specs.Name.{bytes_of}
use Rattle.hunk_base.specs.Sites.{StandFrom}
use Rattle.hunk_loadfile.specs.declared.load_form.LoadForm.{LoadForm}
use Rattle.hunk_loadfile.specs.LoadForm.{long_sites, short_sites}
use Rattle.hunk_loadfile.proofs.LoadFormLemmas.{in_parts}
use Rattle.hunk_loadfile.proofs.NumberWidthLemmas.{bytes_in-append, length-bytes_in}
use Rattle.hunk_loadfile.proofs.RelocationWriterLemmas.{block_bytes-some, group_words-some, groups_words-first, groups_words-nil, offset_of, StandFrom-few}

-- ---- a walk

module _ {X : Type 0} (xs rest : List X) (i : ℕ) (x : X) (is : drop i xs ≡ x ∷ rest) (within : i < length xs) where
  next-parts : x ∷ rest ≡ get_or xs i x ∷ drop (i + 1) xs
  next-parts = let next : suc i ≡ i + 1 = omega arith in sym is ∙ drop-cons xs i x within ∙ ap (λ (n : ℕ). get_or xs i x ∷ drop n xs) next

  -- after the next element those are left that follow it
  pub next-left : rest ≡ drop (i + 1) xs
  next-left = ap (drop 1) next-parts

  -- the next element is one more of those so far
  pub next-taken : take (i + 1) xs ≡ take i xs ++ x ∷ []
  next-taken =
      let next : i + 1 ≡ suc i = omega arith in
      ap (λ (n : ℕ). take n xs) next ∙ take-suc xs i x within ∙ ap (λ (y : X). take i xs ++ y ∷ []) (sym (ap (λ (ys : List X). get_or ys 0 x) next-parts))

-- one more offset is in its place
pub offset-taken : (sites rest : List (ℕ × ℕ)) (i : ℕ) (site : ℕ × ℕ) (offsets : List ℕ)
    → drop i sites ≡ site ∷ rest → i < length sites → i < length offsets
    → take i offsets ≡ map offset_of (take i sites) → take (i + 1) (set offsets i site.0) ≡ map offset_of (take (i + 1) sites)
offset-taken sites rest i site offsets is within room taken =
    take_more_set offsets i site.0 room ∙ ap (λ (os : List ℕ). os ++ site.0 ∷ []) taken
    ∙ sym (ap (map offset_of) (next-taken sites rest i site is within) ∙ map-append offset_of (take i sites) (site ∷ []))

-- the offsets of some more sites
pub offsets-more : (width : NumberWidth) (n more : ℕ) (sites : List (ℕ × ℕ))
    → bytes_in width (map offset_of (take n sites)) ++ bytes_in width (map offset_of (take more (drop n sites))) ≡ bytes_in width (map offset_of (take (n + more) sites))
offsets-more width n more sites =
    sym (bytes_in-append width (map offset_of (take n sites)) (map offset_of (take more (drop n sites))))
    ∙ ap (bytes_in width) (sym (ap (map offset_of) (take-add n more sites) ∙ map-append offset_of (take n sites) (take more (drop n sites))))

-- ---- the only group

module _ (target : ℕ) (sites : List (ℕ × ℕ)) (some : 0 < length sites) (same : All (λ (site : ℕ × ℕ). site.1 ≡ target) sites) where
  only_group : IsGroup target sites [] sites
  only_group =
      record {
        parts = sym (append-nil sites);
        some = some;
        same = same;
        above = λ k d low. absurd (omega arith);
        rise = λ i j d order low. absurd (omega arith);
      }

  -- the groups are one: the number of the sites, the target and the offsets
  pub groups_words-only : (hunks : ℕ) → target < hunks → groups_words hunks sites ≡ (length sites ∷ target ∷ []) ++ map offset_of sites
  groups_words-only hunks below =
      groups_words-first target sites [] sites only_group hunks (λ k d low. omega (arith, same k d low))
      ∙ ap (λ (words : List ℕ). group_words target (map offset_of sites) ++ words) (groups_words-nil hunks) ∙ append-nil (group_words target (map offset_of sites))
      ∙ group_words-some target sites some

  -- the block of these sites
  pub block_bytes-only : (width : NumberWidth) (hunks : ℕ) → target < hunks
      → block_bytes width hunks sites
      ≡ bytes_of (block_type width ∷ []) ++ ((bytes_in width (length sites ∷ target ∷ []) ++ bytes_in width (map offset_of sites)) ++ block_end (width_bytes width * (2 + length sites)))
  block_bytes-only width hunks below =
      let words = groups_words-only hunks below in
      let parts = ap (bytes_in width) words ∙ bytes_in-append width (length sites ∷ target ∷ []) (map offset_of sites) in
      let count : length (bytes_in width (groups_words hunks sites)) ≡ width_bytes width * length ((length sites ∷ target ∷ []) ++ map offset_of sites) = ap length (ap (bytes_in width) words) ∙ length-bytes_in width ((length sites ∷ target ∷ []) ++ map offset_of sites) in
      let numbers : length ((length sites ∷ target ∷ []) ++ map offset_of sites) ≡ 2 + length sites = omega (arith, length-map sites offset_of) in
      let size = count ∙ ap (λ (n : ℕ). width_bytes width * n) numbers in
      block_bytes-some width hunks sites some
      ∙ ap (λ (n : ℕ). bytes_of (block_type width ∷ []) ++ (bytes_in width (groups_words hunks sites) ++ block_end n)) size
      ∙ ap (λ (bytes : List ℕ). bytes_of (block_type width ∷ []) ++ (bytes ++ block_end (width_bytes width * (2 + length sites)))) parts

-- ---- the sites of both blocks

-- the target of a site, whose offset has 32 bits
pub record IsTo (target : ℕ) (site : ℕ × ℕ) : Type 0 where
  pub same : site.1 ≡ target
  pub typed : site.0 < 2 ^ 32

module _ (target : ℕ) where
  -- one more site to it
  pub all-to : (site : ℕ × ℕ) (rest sites : List (ℕ × ℕ)) → sites ≡ site ∷ rest → IsTo target site → All (IsTo target) rest → All (IsTo target) sites
  all-to site rest sites is to all = subst (All (IsTo target)) (sym is) (All-cons (IsTo target) site rest to all)

  pub all-to-none : (sites : List (ℕ × ℕ)) → sites ≡ [] → All (IsTo target) sites
  all-to-none sites none = subst (All (IsTo target)) (sym none) (λ k d low. absurd (omega arith))

  pub are-same : (sites : List (ℕ × ℕ)) → All (IsTo target) sites → All (λ (site : ℕ × ℕ). site.1 ≡ target) sites
  are-same sites all k d low = (all k d low).same

  pub are-few : (limit : ℕ) (sites : List (ℕ × ℕ)) → StandFrom 0 limit sites → All (IsTo target) sites → length sites ≤ 2 ^ 30
  are-few limit sites stand all = StandFrom-few limit sites stand (λ k d low. (all k d low).typed)

module _ (form : LoadForm) (limit : ℕ) (sites : List (ℕ × ℕ)) (stand : StandFrom 0 limit sites) (short : ℕ) (is : short ≡ length (short_sites form sites)) where
  parts : sites ≡ short_sites form sites ++ long_sites form sites
  parts = in_parts form 0 limit sites stand

  pub short-taken : take short sites ≡ short_sites form sites
  short-taken = ap (λ (n : ℕ). take n sites) is ∙ ap (take (length (short_sites form sites))) parts ∙ take-append_seam (short_sites form sites) (long_sites form sites)

  pub long-taken : (long : ℕ) → long ≡ length (long_sites form sites) → take long (drop short sites) ≡ long_sites form sites
  long-taken long all =
      ap (λ (n : ℕ). take long (drop n sites)) is ∙ ap (λ (xs : List (ℕ × ℕ)). take long (drop (length (short_sites form sites)) xs)) parts
      ∙ ap (take long) (drop-append_seam (short_sites form sites) (long_sites form sites))
      ∙ take_all long (long_sites form sites) (omega (arith, all))
