-- The sites in the order of a written file, in ascending order of target and then of offset, share
-- no byte with one before.
use Rattle.std.proofs.Common.{◌≡◌, ℕ, ◌+◌, ◌≤◌, inl, inr, true, List, [], ◌∷◌, refl, sym, subst, arith}
use Rattle.std.specs.List.{AllByRecursion}
use Rattle.std.proofs.lemmas.Bool.{and_from, and_parts, cases_eq, eq-eqb, le-leb, lt-leb, ne_eqb}
use Rattle.hunk_words.specs.Machine.{reverse_onto}
use Rattle.hunk_words.specs.SiteRules.{all_apart, apart}
use Rattle.hunk_base.specs.Sites.{StandFrom}
use Rattle.hunk_loadfile.specs.WrittenForm.{offsets_to}
use Rattle.hunk_loadfile.proofs.LoadFormLemmas.{LieBefore}

apart-behind : (o p : ℕ) → p + 4 ≤ o → apart o p ≡ true
apart-behind o p behind = rw (lt-leb (o + 4) p (omega arith), le-leb (p + 4) o behind) refl

apart-before : (o p : ℕ) → o + 4 ≤ p → apart o p ≡ true
apart-before o p before = rw (le-leb (o + 4) p before) refl

-- The offsets, one after another, lie within the limit and apart from those seen.
abbrev pub AreFree : ℕ → List ℕ → List ℕ → Type 0
AreFree limit seen [] = Unit {0}
AreFree limit seen (o ∷ os) = (o + 4 ≤ limit) × (all_apart o seen ≡ true) × AreFree limit (o ∷ seen) os

-- The sites whose targets are this one or later ones are apart from those seen.
abbrev pub IsClear : ℕ → List ℕ → List (ℕ × ℕ) → Type 0
IsClear target seen es = AllByRecursion (λ e. target ≤ e.1 → all_apart e.0 seen ≡ true) es

pub clear-start : (target : ℕ) (es : List (ℕ × ℕ)) → IsClear target [] es
clear-start target [] = tt
clear-start target (e ∷ es) = ((λ later. refl), clear-start target es)

clear-next : (target offset from limit : ℕ) (seen : List ℕ) (es : List (ℕ × ℕ)) → offset + 4 ≤ from → StandFrom from limit es → IsClear target seen es → IsClear target (offset ∷ seen) es
clear-next target offset from limit seen [] behind apart clear = tt
clear-next target offset from limit seen (e ∷ es) behind stand clear = (
  (λ later. and_from (apart e.0 offset) (all_apart e.0 seen) (apart-behind e.0 offset (omega arith)) (clear.0 later)),
  clear-next target offset (e.0 + 4) limit seen es (omega arith) stand.2 clear.1,
)

-- those with this target are free
pub free-offsets : (target from limit : ℕ) (seen : List ℕ) (es : List (ℕ × ℕ)) → StandFrom from limit es → IsClear target seen es → AreFree limit seen (offsets_to target es)
free-offsets target from limit seen [] stand clear = tt
free-offsets target from limit seen (e ∷ es) stand clear = elim (cases_eq e.1 target) [
  | inl same ↦ rw (eq-eqb e.1 target same)
      (stand.1, clear.0 (omega arith), free-offsets target (e.0 + 4) limit (e.0 ∷ seen) es stand.2 (clear-next target e.0 (e.0 + 4) limit seen es (omega arith) stand.2 clear.1))
  | inr other ↦ rw (ne_eqb e.1 target other) (free-offsets target (e.0 + 4) limit seen es stand.2 clear.1)
]

apart-later : (o target from limit : ℕ) (es : List (ℕ × ℕ)) → o + 4 ≤ from → StandFrom from limit es → all_apart o (offsets_to target es) ≡ true
apart-later o target from limit [] before stand = refl
apart-later o target from limit (e ∷ es) before stand =
    let rest = apart-later o target (e.0 + 4) limit es (omega arith) stand.2 in
    elim (cases_eq e.1 target) [
      | inl same ↦ rw (eq-eqb e.1 target same) (and_from (apart o e.0) (all_apart o (offsets_to target es)) (apart-before o e.0 (omega arith)) rest)
      | inr other ↦ rw (ne_eqb e.1 target other) rest
    ]

clear-group : (target from limit : ℕ) (es : List (ℕ × ℕ)) → StandFrom from limit es → IsClear (target + 1) (offsets_to target es) es
clear-group target from limit [] stand = tt
clear-group target from limit (e ∷ es) stand =
    let rest = clear-group target (e.0 + 4) limit es stand.2 in
    elim (cases_eq e.1 target) [
      | inl same ↦
          let here : offsets_to target (e ∷ es) ≡ e.0 ∷ offsets_to target es = rw (eq-eqb e.1 target same) refl in
          subst (λ os. IsClear (target + 1) os (e ∷ es)) (sym here)
          ((λ later. absurd (omega arith)), clear-next (target + 1) e.0 (e.0 + 4) limit (offsets_to target es) es (omega arith) stand.2 rest)
      | inr other ↦
          let behind : offsets_to target (e ∷ es) ≡ offsets_to target es = rw (ne_eqb e.1 target other) refl in
          subst (λ os. IsClear (target + 1) os (e ∷ es)) (sym behind) ((λ later. apart-later e.0 target (e.0 + 4) limit es (omega arith) stand.2), rest)
    ]

all_apart-reverse_onto : (o : ℕ) (os seen : List ℕ) → all_apart o os ≡ true → all_apart o seen ≡ true → all_apart o (reverse_onto os seen) ≡ true
all_apart-reverse_onto o [] seen apart_os apart_seen = apart_seen
all_apart-reverse_onto o (p ∷ os) seen apart_os apart_seen =
    let parts = and_parts (apart o p) (all_apart o os) apart_os in
    all_apart-reverse_onto o os (p ∷ seen) parts.1 (and_from (apart o p) (all_apart o seen) parts.0 apart_seen)

clear-both : (target : ℕ) (os seen : List ℕ) (es : List (ℕ × ℕ)) → IsClear (target + 1) os es → IsClear target seen es → IsClear (target + 1) (reverse_onto os seen) es
clear-both target os seen [] group clear = tt
clear-both target os seen (e ∷ es) group clear =
    ((λ later. all_apart-reverse_onto e.0 os seen (group.0 later) (clear.0 (omega arith))), clear-both target os seen es group.1 clear.1)

-- once those with this target are seen, the later ones are clear of them too
pub clear-behind : (target limit : ℕ) (seen : List ℕ) (es : List (ℕ × ℕ)) → StandFrom 0 limit es → IsClear target seen es → IsClear (target + 1) (reverse_onto (offsets_to target es) seen) es
clear-behind target limit seen es stand clear = clear-both target (offsets_to target es) seen es (clear-group target 0 limit es stand) clear

-- ---- the sites of another block

before-offsets : (o target : ℕ) (near : List (ℕ × ℕ)) → AllByRecursion (λ e. e.0 + 4 ≤ o) near → all_apart o (offsets_to target near) ≡ true
before-offsets o target [] before = refl
before-offsets o target (e ∷ near) before = elim (cases_eq e.1 target) [
  | inl same ↦ rw (eq-eqb e.1 target same) (and_from (apart o e.0) (all_apart o (offsets_to target near)) (apart-behind o e.0 before.0) (before-offsets o target near before.1))
  | inr other ↦ rw (ne_eqb e.1 target other) (before-offsets o target near before.1)
]

first-behind : (f : ℕ × ℕ) (far near : List (ℕ × ℕ)) → LieBefore near (f ∷ far) → AllByRecursion (λ e. e.0 + 4 ≤ f.0) near
first-behind f far [] before = tt
first-behind f far (e ∷ near) before = let here : (e.0 + 4 ≤ f.0) × AllByRecursion (λ g. e.0 + 4 ≤ g.0) far = before.0 in (here.0, first-behind f far near before.1)

others-behind : (f : ℕ × ℕ) (far near : List (ℕ × ℕ)) → LieBefore near (f ∷ far) → LieBefore near far
others-behind f far [] before = tt
others-behind f far (e ∷ near) before = let here : (e.0 + 4 ≤ f.0) × AllByRecursion (λ g. e.0 + 4 ≤ g.0) far = before.0 in (here.1, others-behind f far near before.1)

-- the sites after those of a block stay clear of them
pub clear-far : (target : ℕ) (seen : List ℕ) (near far : List (ℕ × ℕ)) → LieBefore near far → IsClear 0 seen far → IsClear 0 (reverse_onto (offsets_to target near) seen) far
clear-far target seen near [] before clear = tt
clear-far target seen near (f ∷ far) before clear = (
  (λ later. all_apart-reverse_onto f.0 (offsets_to target near) seen (before-offsets f.0 target near (first-behind f far near before)) (clear.0 later)),
  clear-far target seen near far (others-behind f far near before) clear.1,
)
