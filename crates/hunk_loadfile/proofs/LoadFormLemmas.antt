-- The sites of a hunk in two parts: those of its short relocation block, and those of the other one.
use Rattle.std.proofs.Common.{◌≡◌, ◌∙◌, ℕ, suc, ◌+◌, ◌*◌, ◌-◌, ◌^◌, ◌<◌, ◌≤◌, Bool, true, false, inl, inr, List, [], ◌∷◌, ◌++◌, length, append_assoc, refl, ap, sym, arith}
use Rattle.std.specs.List.{AllByRecursion, filter}
use Rattle.std.proofs.lemmas.Bool.{cases_Bool, cases_lt, le-ltb, lt-ltb}
use Rattle.hunk_base.specs.Sites.{StandFrom}
use Rattle.hunk_loadfile.specs.declared.load_form.LoadForm.{LoadForm}
use Rattle.hunk_loadfile.specs.declared.load_form.LoadForm.TheVariants.{Plain, Short}
use Rattle.hunk_loadfile.specs.LoadForm.{is_short, long_sites, short_sites}

-- ---- lists that are split by a test

module _ (test : ℕ × ℕ → Bool) (left rest : List (ℕ × ℕ)) (x : ℕ × ℕ) (is : left ≡ x ∷ rest) where
  pub filter-passes : test x ≡ true → filter test left ≡ x ∷ filter test rest
  filter-passes passes = ap (filter test) is ∙ rw passes refl

  pub filter-fails : test x ≡ false → filter test left ≡ filter test rest
  filter-fails fails = ap (filter test) is ∙ rw fails refl

  pub length-passes : test x ≡ true → length (filter test left) ≡ suc (length (filter test rest))
  length-passes passes = ap length (filter-passes passes)

  -- one more of those that pass, and one of the others
  pub taken-more : (xs all : List (ℕ × ℕ)) → test x ≡ true → xs ++ filter test left ≡ all → (xs ++ x ∷ []) ++ filter test rest ≡ all
  taken-more xs all passes whole = append_assoc xs (x ∷ []) (filter test rest) ∙ ap (λ (ys : List (ℕ × ℕ)). xs ++ ys) (sym (filter-passes passes)) ∙ whole

  pub taken-same : (xs all : List (ℕ × ℕ)) → test x ≡ false → xs ++ filter test left ≡ all → xs ++ filter test rest ≡ all
  taken-same xs all fails whole = ap (λ (ys : List (ℕ × ℕ)). xs ++ ys) (sym (filter-fails fails)) ∙ whole

-- ---- the two parts

pub length-both : (form : LoadForm) (es : List (ℕ × ℕ)) → length (short_sites form es) + length (long_sites form es) ≡ length es
length-both form [] = refl
length-both form (e ∷ es) = elim (cases_Bool (is_short form e.0)) [
  | inl short ↦ rw short (omega (arith, length-both form es))
  | inr long ↦ rw long (omega (arith, length-both form es))
]

-- an offset behind one that is not in the short block isn't either
is_short-behind : (form : LoadForm) (offset behind : ℕ) → offset ≤ behind → is_short form offset ≡ false → is_short form behind ≡ false
is_short-behind Plain offset behind order long = refl
is_short-behind Short offset behind order long = elim (cases_lt offset (2 ^ 16)) [
  | inl below ↦ let wrong : true ≡ false = sym (lt-ltb offset (2 ^ 16) below) ∙ long in absurd (cc)
  | inr above ↦ le-ltb behind (2 ^ 16) (omega arith)
]

short_sites-behind : (form : LoadForm) (offset from limit : ℕ) (es : List (ℕ × ℕ)) → offset ≤ from → is_short form offset ≡ false → StandFrom from limit es → short_sites form es ≡ []
short_sites-behind form offset from limit [] order long stand = refl
short_sites-behind form offset from limit (e ∷ es) order long stand =
    rw (is_short-behind form offset e.0 (omega (arith, stand.0)) long) (short_sites-behind form offset (e.0 + 4) limit es (omega (arith, stand.0)) long stand.2)

-- the sites of the short block come first
pub in_parts : (form : LoadForm) (from limit : ℕ) (es : List (ℕ × ℕ)) → StandFrom from limit es → es ≡ short_sites form es ++ long_sites form es
in_parts form from limit [] stand = refl
in_parts form from limit (e ∷ es) stand =
    let rest = in_parts form (e.0 + 4) limit es stand.2 in
    elim (cases_Bool (is_short form e.0)) [
      | inl short ↦ rw short (ap (λ (sites : List (ℕ × ℕ)). e ∷ sites) rest)
      | inr long ↦
          let none = short_sites-behind form e.0 (e.0 + 4) limit es (omega arith) long stand.2 in
          rw (long, none) (ap (λ (sites : List (ℕ × ℕ)). e ∷ sites) (rest ∙ ap (λ (sites : List (ℕ × ℕ)). sites ++ long_sites form es) none))
    ]

-- ---- each part keeps the order of sites

stand-from : (from before limit : ℕ) (es : List (ℕ × ℕ)) → before ≤ from → StandFrom from limit es → StandFrom before limit es
stand-from from before limit [] order stand = tt
stand-from from before limit (e ∷ es) order stand = (omega (arith, stand.0), stand.1, stand.2)

pub stand-filter : (test : ℕ × ℕ → Bool) (from limit : ℕ) (es : List (ℕ × ℕ)) → StandFrom from limit es → StandFrom from limit (filter test es)
stand-filter test from limit [] stand = tt
stand-filter test from limit (e ∷ es) stand = elim (cases_Bool (test e)) [
  | inl passes ↦ rw passes (stand.0, stand.1, stand-filter test (e.0 + 4) limit es stand.2)
  | inr fails ↦ rw fails (stand-from (e.0 + 4) from limit (filter test es) (omega (arith, stand.0)) (stand-filter test (e.0 + 4) limit es stand.2))
]

-- ---- the numbers of the short block

pub short_sites-near : (form : LoadForm) (es : List (ℕ × ℕ)) → AllByRecursion (λ e. e.0 < 2 ^ 16) (short_sites form es)
short_sites-near form [] = tt
short_sites-near Plain (e ∷ es) = short_sites-near Plain es
short_sites-near Short (e ∷ es) = elim (cases_lt e.0 (2 ^ 16)) [
  | inl below ↦ rw (lt-ltb e.0 (2 ^ 16) below) (below, short_sites-near Short es)
  | inr above ↦ rw (le-ltb e.0 (2 ^ 16) (omega arith)) (short_sites-near Short es)
]

-- sites whose offsets are below a bound
pub stand-few : (bound from limit : ℕ) (es : List (ℕ × ℕ)) → StandFrom from limit es → AllByRecursion (λ e. e.0 < bound) es → 4 * length es ≤ bound + 3 - from
stand-few bound from limit [] stand below = omega arith
stand-few bound from limit (e ∷ es) stand below = omega (arith, stand.0, below.0, stand-few bound (e.0 + 4) limit es stand.2 below.1)

pub short_sites-few : (form : LoadForm) (limit : ℕ) (es : List (ℕ × ℕ)) → StandFrom 0 limit es → length (short_sites form es) ≤ 2 ^ 14
short_sites-few form limit es stand =
    omega (arith, stand-few (2 ^ 16) 0 limit (short_sites form es) (stand-filter (λ e. is_short form e.0) 0 limit es stand) (short_sites-near form es))

-- ---- the sites of the short block lie before the others

-- each of these sites ends where each of the others begins, or earlier
abbrev pub LieBefore : List (ℕ × ℕ) → List (ℕ × ℕ) → Type 0
LieBefore near far = AllByRecursion (λ e. AllByRecursion (λ f. e.0 + 4 ≤ f.0) far) near

stand-behind : (place from limit : ℕ) (xs ys : List (ℕ × ℕ)) → place ≤ from → StandFrom from limit (xs ++ ys) → AllByRecursion (λ f. place ≤ f.0) ys
stand-behind place from limit [] [] order stand = tt
stand-behind place from limit [] (y ∷ ys) order stand = (omega (arith, stand.0), stand-behind place (y.0 + 4) limit [] ys (omega (arith, stand.0)) stand.2)
stand-behind place from limit (x ∷ xs) ys order stand = stand-behind place (x.0 + 4) limit xs ys (omega (arith, stand.0)) stand.2

pub lie-before : (from limit : ℕ) (xs ys : List (ℕ × ℕ)) → StandFrom from limit (xs ++ ys) → LieBefore xs ys
lie-before from limit [] ys stand = tt
lie-before from limit (x ∷ xs) ys stand = (stand-behind (x.0 + 4) (x.0 + 4) limit xs ys (omega arith) stand.2, lie-before (x.0 + 4) limit xs ys stand.2)

pub lies-behind : (offset : ℕ) (es : List (ℕ × ℕ)) → AllByRecursion (λ f. offset + 4 ≤ f.0) es → AllByRecursion (λ f. offset < f.0) es
lies-behind offset [] behind = tt
lies-behind offset (e ∷ es) behind = (omega (arith, behind.0), lies-behind offset es behind.1)

pub AllByRecursion-filter : (test : ℕ × ℕ → Bool) (P : ℕ × ℕ → Type 0) (es : List (ℕ × ℕ)) → AllByRecursion P es → AllByRecursion P (filter test es)
AllByRecursion-filter test P [] all = tt
AllByRecursion-filter test P (e ∷ es) all = elim (cases_Bool (test e)) [
  | inl passes ↦ rw passes (all.0, AllByRecursion-filter test P es all.1)
  | inr fails ↦ rw fails (AllByRecursion-filter test P es all.1)
]

pub AllByRecursion-append : {X : Type 0} (P : X → Type 0) (xs ys : List X) → AllByRecursion P xs → AllByRecursion P ys → AllByRecursion P (xs ++ ys)
AllByRecursion-append P [] ys front behind = behind
AllByRecursion-append P (x ∷ xs) ys front behind = (front.0, AllByRecursion-append P xs ys front.1 behind)
