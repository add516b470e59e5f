-- What holds of sites that are apart.
use Rattle.std.proofs.Common.{◌≡◌, ℕ, ◌+◌, ◌-◌, ◌*◌, ◌≤◌, inl, inr, ⊎_elim, Some, IsSome, Result, Ok, Err, OnOk, is_ok, Bool, true, false, cond, List, [], ◌∷◌, length, refl, sym, ap, ◌∙◌, ◌==◌, if◌then◌else◌, eq-eqb, arith}
use Rattle.std.proofs.lemmas.Bool.{cases_lt, cases_eq, ne_eqb}
use Rattle.std.proofs.iter.runs.Sources.{from_front}
use Rattle.std.specs.declared.cmp.Ordering.TheVariants.{Less, Equal, Greater}
use Rattle.std.specs.Cmp.{nat_cmp_is}
use Rattle.std.specs.Map.{values_of}
use Rattle.std.specs.Map.Iter.{TakesFirst, ShowsInOrder, ShowsValuesInOrder}
use Rattle.std.specs.Ordering.{nat_cmp}
use Rattle.std.specs.BTreeMap.{insert_entry, is_at}
use Rattle.hunk_base.specs.Sites.{SiteMap, AreApart, Meets, StandFrom, site_shown, target_at}

-- a look-up in the rest finds something in the whole too
pub target_at-more : {T : Type 0} (e : ℕ × T) (es : List (ℕ × T)) (other : ℕ) → IsSome (target_at es other) → IsSome (target_at (e ∷ es) other)
target_at-more e es other h = go (is_at (nat_cmp other) e.0)
  where
    go : (b : Bool) → IsSome (cond b (Some e.1) (target_at es other))
    go true = refl
    go false = h

-- the first entry is found
pub target_at-first : {T : Type 0} (e : ℕ × T) (es : List (ℕ × T)) → IsSome (target_at (e ∷ es) e.0)
target_at-first e es =
    let same : nat_cmp e.0 e.0 ≡ Equal = sym (nat_cmp_is e.0 e.0 Equal refl) in
    rw same refl

-- what meets the rest meets the whole
pub Meets-more : {T : Type 0} (e : ℕ × T) (es : List (ℕ × T)) (offset : ℕ) → Meets es offset → Meets (e ∷ es) offset
Meets-more e es offset m = (m.0, target_at-more e es m.0 m.1, m.2)

-- an entry at another offset is not looked at
pub is_at-apart : (a b : ℕ) → (a ≡ b → ⊥) → is_at (nat_cmp a) b ≡ false
is_at-apart a b apart = elim (cases_lt a b) [
  | inl below ↦ let less : nat_cmp a b ≡ Less = sym (nat_cmp_is a b Less below) in rw less refl
  | inr above ↦ let greater : nat_cmp a b ≡ Greater = sym (nat_cmp_is a b Greater (omega arith)) in rw greater refl
]

-- the site that was put in is found
target_at-here : {T : Type 0} (es : List (ℕ × T)) (offset : ℕ) (target : T) → target_at (insert_entry nat_cmp es offset target) offset ≡ Some target
target_at-here [] offset target =
    let same : nat_cmp offset offset ≡ Equal = sym (nat_cmp_is offset offset Equal refl) in
    rw same refl
target_at-here (e ∷ es) offset target = elim (cases_lt offset e.0) [
  | inl below ↦
      let less : nat_cmp offset e.0 ≡ Less = sym (nat_cmp_is offset e.0 Less below) in
      let same : nat_cmp offset offset ≡ Equal = sym (nat_cmp_is offset offset Equal refl) in
      rw (less, same) refl
  | inr above ↦ elim (cases_eq offset e.0) [
    | inl equal ↦
        let is_equal : nat_cmp offset e.0 ≡ Equal = sym (nat_cmp_is offset e.0 Equal equal) in
        rw (is_equal, is_equal) refl
    | inr apart ↦
        let greater : nat_cmp offset e.0 ≡ Greater = sym (nat_cmp_is offset e.0 Greater (omega arith)) in
        rw (greater, greater) (target_at-here es offset target)
  ]
]

-- and no other look-up changes
target_at-elsewhere : {T : Type 0} (es : List (ℕ × T)) (offset : ℕ) (target : T) (other : ℕ) → (offset ≡ other → ⊥)
    → target_at (insert_entry nat_cmp es offset target) other ≡ target_at es other
target_at-elsewhere [] offset target other apart = rw (is_at-apart other offset (λ e. apart (sym e))) refl
target_at-elsewhere (e ∷ es) offset target other apart = elim (cases_lt offset e.0) [
  | inl below ↦
      let less : nat_cmp offset e.0 ≡ Less = sym (nat_cmp_is offset e.0 Less below) in
      rw (less, is_at-apart other offset (λ k. apart (sym k))) refl
  | inr above ↦ elim (cases_eq offset e.0) [
    | inl equal ↦
        let is_equal : nat_cmp offset e.0 ≡ Equal = sym (nat_cmp_is offset e.0 Equal equal) in
        let no : is_at (nat_cmp other) e.0 ≡ false = is_at-apart other e.0 (λ k. apart (equal ∙ sym k)) in
        rw (is_equal, no) refl
    | inr unequal ↦
        let greater : nat_cmp offset e.0 ≡ Greater = sym (nat_cmp_is offset e.0 Greater (omega arith)) in
        rw greater (ap (λ o. cond (is_at (nat_cmp other) e.0) (Some e.1) o) (target_at-elsewhere es offset target other apart))
  ]
]

-- the look-ups behind a site that was put in
pub target_at-insert_entry : {T : Type 0} (es : List (ℕ × T)) (offset : ℕ) (target : T) (other : ℕ)
    → target_at (insert_entry nat_cmp es offset target) other ≡ (if offset == other then Some target else target_at es other)
target_at-insert_entry es offset target other = elim (cases_eq offset other) [
  | inl same ↦
      let test : (offset == other) ≡ true = eq-eqb offset other same in
      rw test (ap (λ q. target_at (insert_entry nat_cmp es offset target) q) (sym same) ∙ target_at-here es offset target)
  | inr apart ↦
      let test : (offset == other) ≡ false = ne_eqb offset other apart in
      rw test (target_at-elsewhere es offset target other apart)
]

-- and behind one that was put in, or refused
pub target_at-added : {T E : Type 0} (added : Result (Unit {0}) E) (offset : ℕ) (target : T) (old new : List (ℕ × T))
    → new ≡ (if is_ok added then insert_entry nat_cmp old offset target else old)
    → OnOk added ((other : ℕ) → target_at new other ≡ (if offset == other then Some target else target_at old other))
target_at-added (Ok done) offset target old new new_is = rw new_is (λ other. target_at-insert_entry old offset target other)
target_at-added (Err refusal) offset target old new new_is = tt

-- a site that meets none may be put in
pub StandFrom-insert_entry : {T : Type 0} (from limit offset : ℕ) (target : T) (es : List (ℕ × T))
    → StandFrom from limit es → from ≤ offset → offset + 4 ≤ limit → (Meets es offset → ⊥) → StandFrom from limit (insert_entry nat_cmp es offset target)
StandFrom-insert_entry from limit offset target [] apart low high free = (low, high, tt)
StandFrom-insert_entry from limit offset target (e ∷ es) apart low high free = elim (cases_lt offset e.0) [
  | inl below ↦
      let less : nat_cmp offset e.0 ≡ Less = sym (nat_cmp_is offset e.0 Less below) in
      let clear : offset + 4 ≤ e.0 = ⊎_elim (λ near. absurd (free (e.0, target_at-first e es, (omega arith, near)))) (λ far. far) (cases_lt e.0 (offset + 4)) in
      rw less (low, high, (clear, apart.1, apart.2))
  | inr above ↦
      let clear : e.0 + 4 ≤ offset = ⊎_elim (λ near. absurd (free (e.0, target_at-first e es, (near, omega arith)))) (λ far. far) (cases_lt offset (e.0 + 4)) in
      let greater : nat_cmp offset e.0 ≡ Greater = sym (nat_cmp_is offset e.0 Greater (omega arith)) in
      rw greater (apart.0, apart.1, StandFrom-insert_entry (e.0 + 4) limit offset target es apart.2 clear high (λ m. free (Meets-more e es offset m)))
]

-- four bytes for each site, between the two ends
sites-fit : {T : Type 0} (from limit : ℕ) (es : List (ℕ × T)) → StandFrom from limit es → 4 * length es ≤ limit - from
sites-fit from limit [] apart = omega arith
sites-fit from limit (e ∷ es) apart =
    let rest = sites-fit (e.0 + 4) limit es apart.2 in
    omega arith

-- sites that are apart are at most a fourth as many as there are bytes
pub AreApart-few : {T : Type 0} (m : SiteMap T) → AreApart m → 4 * length m.entries ≤ m.limit
AreApart-few m apart =
    let fit = sites-fit 0 m.limit m.entries apart in
    omega arith

-- each run of a walk shows what was left, in order
pub walk-shows_in_order : {T : Type 0} → ShowsInOrder (site_shown {T = T})
walk-shows_in_order = from_front (TakesFirst site_shown) site_shown (λ s. s) (λ s t h. ap length h.0) (λ s x t h. h)

-- and so its targets
pub walk-shows_values_in_order : {T : Type 0} → ShowsValuesInOrder (site_shown {T = T})
walk-shows_values_in_order =
    from_front (TakesFirst site_shown) (λ x. (site_shown x).1) values_of (λ s t h. ap (λ l. length (values_of l)) h.0) (λ s x t h. ap values_of h)
