-- The sites of a map, inserted again group by group, in ascending order of target, make that map.
use Rattle.std.proofs.Common.{◌≡◌, ◌∙◌, ℕ, zero, suc, ◌+◌, ◌<◌, ◌==◌, Bool, nat_lt, inl, inr, List, [], ◌∷◌, ◌++◌, map, refl, ap, sym, arith}
use Rattle.std.specs.List.{AllByRecursion, filter, flat_map, range_with_len}
use Rattle.std.specs.BTreeMap.{insert_entry}
use Rattle.std.specs.Cmp.{nat_cmp_is}
use Rattle.std.specs.Ordering.{nat_cmp}
use Rattle.std.specs.declared.cmp.Ordering.TheVariants.{Less, Greater}
use Rattle.std.proofs.lemmas.Bool.{cases_Bool, cases_order, eq-eqb, ne_eqb, le-ltb, lt-ltb}
use Rattle.hunk_base.specs.Sites.{StandFrom}
use Rattle.hunk_words.specs.Values.{Adds}
use Rattle.hunk_words.specs.Values.Adds.{to_hunk, to_reference}
use Rattle.hunk_loadfile.specs.LoadFile.{with_site, with_sites}
use Rattle.hunk_loadfile.specs.WrittenForm.{offsets_to}
use Rattle.hunk_loadfile.proofs.LoadFormLemmas.{AllByRecursion-append}

-- ---- after an offset

-- sites with one target, in the order of a file
abbrev pub sites_to : ℕ → List ℕ → List (ℕ × Adds)
sites_to target offsets = map (λ o. (o, to_hunk target)) offsets

abbrev pub AreBehind : ℕ → List (ℕ × ℕ) → Type 0
AreBehind offset es = AllByRecursion (λ e. offset < e.0) es

behind-stand : (offset from limit : ℕ) (es : List (ℕ × ℕ)) → offset < from → StandFrom from limit es → AreBehind offset es
behind-stand offset from limit [] below apart = tt
behind-stand offset from limit (e ∷ es) below apart = (omega arith, behind-stand offset (e.0 + 4) limit es (omega arith) apart.2)

behind-filter : (offset : ℕ) (test : ℕ × ℕ → Bool) (es : List (ℕ × ℕ)) → AreBehind offset es → AreBehind offset (filter test es)
behind-filter offset test [] behind = tt
behind-filter offset test (e ∷ es) behind = elim (cases_Bool (test e)) [
  | inl passes ↦ rw passes (behind.0, behind-filter offset test es behind.1)
  | inr fails ↦ rw fails (behind-filter offset test es behind.1)
]

behind-sites_to : (offset target : ℕ) (es : List (ℕ × ℕ)) → AreBehind offset es → AllByRecursion (λ s. offset < s.0) (sites_to target (map (λ e. e.0) es))
behind-sites_to offset target [] behind = tt
behind-sites_to offset target (e ∷ es) behind = (behind.0, behind-sites_to offset target es behind.1)

-- ---- inserting

insert-front : (offset target : ℕ) (es : List (ℕ × ℕ)) → AreBehind offset es → insert_entry nat_cmp es offset target ≡ (offset, target) ∷ es
insert-front offset target [] behind = refl
insert-front offset target (e ∷ es) behind =
    let less : nat_cmp offset e.0 ≡ Less = sym (nat_cmp_is offset e.0 Less behind.0) in
    rw less refl

insert-behind : (e : ℕ × ℕ) (es : List (ℕ × ℕ)) (offset target : ℕ) → e.0 < offset → insert_entry nat_cmp (e ∷ es) offset target ≡ e ∷ insert_entry nat_cmp es offset target
insert-behind e es offset target below =
    let greater : nat_cmp offset e.0 ≡ Greater = sym (nat_cmp_is offset e.0 Greater below) in
    rw greater refl

-- sites after an offset leave what stands there in its place
pub put_in-behind : (e : ℕ × ℕ) (es : List (ℕ × ℕ)) (sites : List (ℕ × Adds)) → AllByRecursion (λ s. e.0 < s.0) sites → with_sites (e ∷ es) sites ≡ e ∷ with_sites es sites
put_in-behind e es [] behind = refl
put_in-behind e es ((o, to_hunk target) ∷ sites) behind =
    ap (λ all. with_sites all sites) (insert-behind e es o target behind.0) ∙ put_in-behind e (insert_entry nat_cmp es o target) sites behind.1
put_in-behind e es ((o, to_reference r) ∷ sites) behind = put_in-behind e es sites behind.1

-- ---- group by group

-- the sites to the targets below this one
abbrev below : ℕ → List (ℕ × ℕ) → List (ℕ × ℕ)
below target es = filter (λ e. nat_lt e.1 target) es

put_in-group : (target from limit : ℕ) (es : List (ℕ × ℕ)) → StandFrom from limit es → with_sites (below target es) (sites_to target (offsets_to target es)) ≡ below (target + 1) es
put_in-group target from limit [] apart = refl
put_in-group target from limit (e ∷ es) apart =
    let behind : AreBehind e.0 es = behind-stand e.0 (e.0 + 4) limit es (omega arith) apart.2 in
    let later = behind-sites_to e.0 target (filter (λ s. s.1 == target) es) (behind-filter e.0 (λ s. s.1 == target) es behind) in
    let rest = put_in-group target (e.0 + 4) limit es apart.2 in
    elim (cases_order e.1 target) [
      | inl same ↦ rw (eq-eqb e.1 target same, le-ltb e.1 target (omega arith), lt-ltb e.1 (target + 1) (omega arith)) (
          ap (λ sites. with_sites sites (sites_to target (offsets_to target es))) (insert-front e.0 target (below target es) (behind-filter e.0 (λ s. nat_lt s.1 target) es behind))
          ∙ put_in-behind (e.0, target) (below target es) (sites_to target (offsets_to target es)) later
          ∙ ap (λ sites. (e.0, target) ∷ sites) rest
          ∙ ap (λ t. (e.0, t) ∷ below (target + 1) es) (sym same)
          )
      | inr other ↦ elim other [
        | inl lower ↦ rw (ne_eqb e.1 target (λ same. omega arith), lt-ltb e.1 target lower, lt-ltb e.1 (target + 1) (omega arith)) (
            put_in-behind e (below target es) (sites_to target (offsets_to target es)) later ∙ ap (λ sites. e ∷ sites) rest
            )
        | inr higher ↦ rw (ne_eqb e.1 target (λ same. omega arith), le-ltb e.1 target (omega arith), le-ltb e.1 (target + 1) (omega arith)) rest
      ]
    ]

pub with_sites-append : (sites : List (ℕ × ℕ)) (xs ys : List (ℕ × Adds)) → with_sites sites (xs ++ ys) ≡ with_sites (with_sites sites xs) ys
with_sites-append sites [] ys = refl
with_sites-append sites (x ∷ xs) ys = with_sites-append (with_site sites x.0 x.1) xs ys

-- the sites in file order: in ascending order of target, and then of offset
abbrev pub sites_from : ℕ → ℕ → List (ℕ × ℕ) → List (ℕ × Adds)
sites_from from count es = flat_map (λ target. sites_to target (offsets_to target es)) (range_with_len from count)

pub sites_from-behind : (offset from count : ℕ) (es : List (ℕ × ℕ)) → AreBehind offset es → AllByRecursion (λ s. offset < s.0) (sites_from from count es)
sites_from-behind offset from zero es behind = tt
sites_from-behind offset from (suc count) es behind =
    AllByRecursion-append (λ (s : ℕ × Adds). offset < s.0) (sites_to from (offsets_to from es)) (sites_from (from + 1) count es)
    (behind-sites_to offset from (filter (λ e. e.1 == from) es) (behind-filter offset (λ e. e.1 == from) es behind)) (sites_from-behind offset (from + 1) count es behind)

put_in-groups : (from count limit : ℕ) (es : List (ℕ × ℕ)) → StandFrom 0 limit es → with_sites (below from es) (sites_from from count es) ≡ below (from + count) es
put_in-groups from zero limit es apart = let same : from ≡ from + 0 = omega arith in ap (λ target. below target es) same
put_in-groups from (suc count) limit es apart =
    let same : from + 1 + count ≡ from + suc count = omega arith in
    with_sites-append (below from es) (sites_to from (offsets_to from es)) (sites_from (from + 1) count es)
    ∙ ap (λ sites. with_sites sites (sites_from (from + 1) count es)) (put_in-group from 0 limit es apart)
    ∙ put_in-groups (from + 1) count limit es apart
    ∙ ap (λ target. below target es) same

below-none : (es : List (ℕ × ℕ)) → below 0 es ≡ []
below-none [] = refl
below-none (e ∷ es) = rw (le-ltb e.1 0 (omega arith)) (below-none es)

below-all : (count : ℕ) (es : List (ℕ × ℕ)) → AllByRecursion (λ e. e.1 < count) es → below count es ≡ es
below-all count [] targets = refl
below-all count (e ∷ es) targets = rw (lt-ltb e.1 count targets.0) (ap (λ sites. e ∷ sites) (below-all count es targets.1))

pub put_in-all : (count limit : ℕ) (es : List (ℕ × ℕ)) → StandFrom 0 limit es → AllByRecursion (λ e. e.1 < count) es → with_sites [] (sites_from 0 count es) ≡ es
put_in-all count limit es apart targets =
    let same : 0 + count ≡ count = omega arith in
    ap (λ sites. with_sites sites (sites_from 0 count es)) (sym (below-none es))
    ∙ put_in-groups 0 count limit es apart
    ∙ ap (λ target. below target es) same
    ∙ below-all count es targets
