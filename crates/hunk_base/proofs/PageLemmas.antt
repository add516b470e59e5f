-- What holds of the sites of one page.
use Rattle.std.proofs.Common.{◌≡◌, ℕ, zero, suc, ◌+◌, ◌-◌, ◌*◌, ◌/◌, ◌^◌, ◌<◌, ◌≤◌, ◌⊎◌, inl, inr, ⊎_elim, Some, None, Option, IsSome, Bool, MatchBool, true, false, cond, if◌then◌else◌, List, [], ◌∷◌, ◌++◌, length, take, drop, get_or, insert, refl, sym, ap, ◌∙◌, arith, take-append-drop}
use Rattle.std.proofs.lemmas.Bool.{cases_lt, cases_eq}
use Rattle.std.proofs.lemmas.List.{append-nil, get_or_read, take_more}
use Rattle.std.proofs.lemmas.List.Edits.{insert_end}
use Rattle.std.specs.declared.cmp.Ordering.{Ordering}
use Rattle.std.specs.declared.cmp.Ordering.TheVariants.{Less, Equal, Greater}
use Rattle.std.specs.Cmp.{nat_cmp_is}
use Rattle.std.specs.List.Sorted.{IsNonDecreasingBy, IsPartitionPoint}
use Rattle.std.specs.Ordering.{nat_cmp, match_ordering}
use Rattle.std.specs.BTreeMap.{insert_entry, is_at}
use Rattle.hunk_base.specs.Page.{AreSpaced, LieInPage, LieWithin, IsFreePlace}
use Rattle.hunk_base.specs.Sites.{Meets, SharesByte, StandFrom, target_at}
use Rattle.hunk_base.proofs.SitesLemmas.{is_at-apart, target_at-first, target_at-more, StandFrom-insert_entry}

-- the same between ends that are further apart
pub LieWithin-weaker : {T : Type 0} (from to low high : ℕ) (sites : List (ℕ × T)) → low ≤ from → to ≤ high → LieWithin from to sites → LieWithin low high sites
LieWithin-weaker from to low high [] below above within = tt
LieWithin-weaker from to low high (site ∷ sites) below above within =
    (omega arith, omega arith, LieWithin-weaker from to low high sites below above within.2)

-- sites that are apart lie between the ends
pub LieWithin-StandFrom : {T : Type 0} (from to : ℕ) (sites : List (ℕ × T)) → StandFrom from to sites → LieWithin from to sites
LieWithin-StandFrom from to [] apart = tt
LieWithin-StandFrom from to (site ∷ sites) apart =
    (apart.0, apart.1, LieWithin-weaker (site.0 + 4) to from to sites (omega arith) (omega arith) (LieWithin-StandFrom (site.0 + 4) to sites apart.2))

pub LieWithin-append : {T : Type 0} (from to : ℕ) (xs ys : List (ℕ × T)) → LieWithin from to xs → LieWithin from to ys → LieWithin from to (xs ++ ys)
LieWithin-append from to [] ys first second = second
LieWithin-append from to (x ∷ xs) ys first second = (first.0, first.1, LieWithin-append from to xs ys first.2 second)

-- a site that was put in lies there too
pub LieWithin-insert_entry : {T : Type 0} (from to offset : ℕ) (target : T) (sites : List (ℕ × T))
    → LieWithin from to sites → from ≤ offset → offset + 4 ≤ to → LieWithin from to (insert_entry nat_cmp sites offset target)
LieWithin-insert_entry from to offset target [] within low high = (low, high, tt)
LieWithin-insert_entry from to offset target (site ∷ sites) within low high = elim (cases_lt offset site.0) [
  | inl below ↦
      let less : nat_cmp offset site.0 ≡ Less = sym (nat_cmp_is offset site.0 Less below) in
      rw less (low, high, within)
  | inr above ↦ elim (cases_eq offset site.0) [
    | inl equal ↦
        let is_equal : nat_cmp offset site.0 ≡ Equal = sym (nat_cmp_is offset site.0 Equal equal) in
        rw is_equal within
    | inr apart ↦
        let greater : nat_cmp offset site.0 ≡ Greater = sym (nat_cmp_is offset site.0 Greater (omega arith)) in
        rw greater (within.0, within.1, LieWithin-insert_entry from to offset target sites within.2 low high)
  ]
]

-- there is no site where none lies
pub target_at-outside : {T : Type 0} (from to offset : ℕ) (sites : List (ℕ × T))
    → LieWithin from to sites → (offset < from) ⊎ (to < offset + 4) → target_at sites offset ≡ None
target_at-outside from to offset [] within outside = refl
target_at-outside from to offset (site ∷ sites) within outside =
    let unequal : offset ≡ site.0 → ⊥ = λ same. ⊎_elim (λ below. omega arith) (λ above. omega arith) outside in
    rw (is_at-apart offset site.0 unequal) (target_at-outside from to offset sites within.2 outside)

-- a look-up that finds nothing in a first list is one in the second
cond-none : {T : Type 0} (here : Bool) (target : T) (first rest second : Option T)
    → (first ≡ None → rest ≡ second) → cond here (Some target) first ≡ None → cond here (Some target) rest ≡ second
cond-none true target first rest second step wrong = cc
cond-none false target first rest second step none = step none

pub target_at-append_right : {T : Type 0} (offset : ℕ) (xs ys : List (ℕ × T)) → target_at xs offset ≡ None → target_at (xs ++ ys) offset ≡ target_at ys offset
target_at-append_right offset [] ys none = refl
target_at-append_right offset (x ∷ xs) ys none =
    cond-none (is_at (nat_cmp offset) x.0) x.1 (target_at xs offset) (target_at (xs ++ ys) offset) (target_at ys offset)
    (λ none. target_at-append_right offset xs ys none) none

-- and one in the first, where the second has nothing there
pub target_at-append_left : {T : Type 0} (offset : ℕ) (xs ys : List (ℕ × T)) → target_at ys offset ≡ None → target_at (xs ++ ys) offset ≡ target_at xs offset
target_at-append_left offset [] ys none = none
target_at-append_left offset (x ∷ xs) ys none =
    ap (λ rest. cond (is_at (nat_cmp offset) x.0) (Some x.1) rest) (target_at-append_left offset xs ys none)

-- what is found in one of two lists is found in both
IsSome-cond : {T : Type 0} (here : Bool) (target : T) (old new : Option T)
    → (IsSome old → IsSome new) → IsSome (cond here (Some target) old) → IsSome (cond here (Some target) new)
IsSome-cond true target old new step found = refl
IsSome-cond false target old new step found = step found

pub IsSome-append_left : {T : Type 0} (offset : ℕ) (xs ys : List (ℕ × T)) → IsSome (target_at xs offset) → IsSome (target_at (xs ++ ys) offset)
IsSome-append_left offset [] ys found = cc
IsSome-append_left offset (x ∷ xs) ys found =
    IsSome-cond (is_at (nat_cmp offset) x.0) x.1 (target_at xs offset) (target_at (xs ++ ys) offset) (λ rest. IsSome-append_left offset xs ys rest) found

pub IsSome-append_right : {T : Type 0} (offset : ℕ) (xs ys : List (ℕ × T)) → IsSome (target_at ys offset) → IsSome (target_at (xs ++ ys) offset)
IsSome-append_right offset [] ys found = found
IsSome-append_right offset (x ∷ xs) ys found = target_at-more x (xs ++ ys) offset (IsSome-append_right offset xs ys found)

nothing_found : {T : Type 0} (found : Option T) → found ≡ None → IsSome found → ⊥
nothing_found None none some = cc
nothing_found (Some target) none some = cc

-- a site between two lists shares no byte with them
pub Meets-between : {T : Type 0} (from to offset : ℕ) (xs ys : List (ℕ × T))
    → LieWithin from offset xs → LieWithin (offset + 4) to ys → Meets (xs ++ ys) offset → ⊥
Meets-between from to offset xs ys before after meets =
    let other : ℕ = meets.0 in
    let not_before : target_at xs other ≡ None = target_at-outside from offset other xs before (inr meets.2.0) in
    let not_after : target_at ys other ≡ None = target_at-outside (offset + 4) to other ys after (inl meets.2.1) in
    let none : target_at (xs ++ ys) other ≡ None = target_at-append_right other xs ys not_before ∙ not_after in
    nothing_found (target_at (xs ++ ys) other) none meets.1

-- an insertion between two lists
pub insert_entry-between : {T : Type 0} (from to offset : ℕ) (target : T) (xs ys : List (ℕ × T))
    → LieWithin from offset xs → LieWithin (offset + 4) to ys → insert_entry nat_cmp (xs ++ ys) offset target ≡ xs ++ (offset, target) ∷ ys
insert_entry-between from to offset target [] [] before after = refl
insert_entry-between from to offset target [] (y ∷ ys) before after =
    let less : nat_cmp offset y.0 ≡ Less = sym (nat_cmp_is offset y.0 Less (omega arith)) in
    rw less refl
insert_entry-between from to offset target (x ∷ xs) ys before after =
    let greater : nat_cmp offset x.0 ≡ Greater = sym (nat_cmp_is offset x.0 Greater (omega arith)) in
    rw greater (ap (λ rest. x ∷ rest) (insert_entry-between from to offset target xs ys before.2 after))

-- an insertion into the second of two lists, the first of which lies before the site
pub insert_entry-append_right : {T : Type 0} (from to offset : ℕ) (target : T) (xs ys : List (ℕ × T))
    → LieWithin from to xs → to < offset + 4 → insert_entry nat_cmp (xs ++ ys) offset target ≡ xs ++ insert_entry nat_cmp ys offset target
insert_entry-append_right from to offset target [] ys within below = refl
insert_entry-append_right from to offset target (x ∷ xs) ys within below =
    let greater : nat_cmp offset x.0 ≡ Greater = sym (nat_cmp_is offset x.0 Greater (omega arith)) in
    rw greater (ap (λ rest. x ∷ rest) (insert_entry-append_right from to offset target xs ys within.2 below))

-- and into the first, where the second lies after it
match_ordering-append : {X : Type 0} (order : Ordering) (first same rest all more : List X)
    → all ≡ rest ++ more → match_ordering order (first ++ more) (same ++ more) all ≡ match_ordering order first same rest ++ more
match_ordering-append Less first same rest all more step = refl
match_ordering-append Equal first same rest all more step = refl
match_ordering-append Greater first same rest all more step = step

pub insert_entry-append_left : {T : Type 0} (from to offset : ℕ) (target : T) (xs ys : List (ℕ × T))
    → LieWithin from to ys → offset < from → insert_entry nat_cmp (xs ++ ys) offset target ≡ insert_entry nat_cmp xs offset target ++ ys
insert_entry-append_left from to offset target [] [] within above = refl
insert_entry-append_left from to offset target [] (y ∷ ys) within above =
    let less : nat_cmp offset y.0 ≡ Less = sym (nat_cmp_is offset y.0 Less (omega arith)) in
    rw less refl
insert_entry-append_left from to offset target (x ∷ xs) ys within above =
    match_ordering-append (nat_cmp offset x.0) ((offset, target) ∷ x ∷ xs) ((x.0, target) ∷ xs) (x ∷ insert_entry nat_cmp xs offset target)
    (x ∷ insert_entry nat_cmp (xs ++ ys) offset target) ys
    (ap (λ rest. x ∷ rest) (insert_entry-append_left from to offset target xs ys within above))

-- the free place of a site is where its entry belongs
pub IsFreePlace-insert : {T : Type 0} (offset place : ℕ) (target : T) (sites : List (ℕ × T))
    → IsFreePlace sites offset place → insert sites place (offset, target) ≡ insert_entry nat_cmp sites offset target
IsFreePlace-insert offset place target sites free =
    sym (insert_entry-between 0 (2 ^ 32 + 3) offset target (take place sites) (drop place sites) free.before free.after)
    ∙ ap (λ all. insert_entry nat_cmp all offset target) (take-append-drop place sites)

-- a site with a free place shares no byte with another one
pub IsFreePlace-free : {T : Type 0} (offset place : ℕ) (sites : List (ℕ × T)) → IsFreePlace sites offset place → Meets sites offset → ⊥
IsFreePlace-free offset place sites free meets =
    Meets-between 0 (2 ^ 32 + 3) offset (take place sites) (drop place sites) free.before free.after
    (rw take-append-drop meets)

-- each site begins at `from` or after it
pub StandFrom-least : {T : Type 0} (from limit : ℕ) (sites : List (ℕ × T)) (k : ℕ) (d : ℕ × T) → StandFrom from limit sites → k < length sites → from ≤ (get_or sites k d).0
StandFrom-least from limit [] k d apart inside = absurd (omega arith)
StandFrom-least from limit (site ∷ sites) zero d apart inside = apart.0
StandFrom-least from limit (site ∷ sites) (suc k) d apart inside =
    let rest = StandFrom-least (site.0 + 4) limit sites k d apart.2 (omega arith) in
    omega arith

-- the offsets rise
pub StandFrom-rises : {T : Type 0} (from limit : ℕ) (sites : List (ℕ × T)) → StandFrom from limit sites → IsNonDecreasingBy (λ (site : ℕ × T). site.0) sites
StandFrom-rises from limit [] apart i j d order inside = absurd (omega arith)
StandFrom-rises from limit (site ∷ sites) apart zero zero d order inside = omega arith
StandFrom-rises from limit (site ∷ sites) apart zero (suc j) d order inside =
    let rest = StandFrom-least (site.0 + 4) limit sites j d apart.2 (omega arith) in
    omega arith
StandFrom-rises from limit (site ∷ sites) apart (suc i) zero d order inside = absurd (omega arith)
StandFrom-rises from limit (site ∷ sites) apart (suc i) (suc j) d order inside =
    StandFrom-rises (site.0 + 4) limit sites apart.2 i j d (omega arith) (omega arith)

-- the sites before a place, each of which ends at the offset or before it
pub LieWithin-before : {T : Type 0} (offset place : ℕ) (sites : List (ℕ × T))
    → ((k : ℕ) (d : ℕ × T) → k < place → (get_or sites k d).0 + 4 ≤ offset) → place ≤ length sites → LieWithin 0 offset (take place sites)
LieWithin-before offset zero sites each inside = tt
LieWithin-before offset (suc place) [] each inside = tt
LieWithin-before offset (suc place) (site ∷ sites) each inside =
    let end : site.0 + 4 ≤ offset = each 0 site (omega arith) in
    (omega arith, end, LieWithin-before offset place sites (λ k d below. each (suc k) d (omega arith)) (omega arith))

-- the sites from one on that begins behind an offset
pub StandFrom-after : {T : Type 0} (from limit offset : ℕ) (sites : List (ℕ × T)) (place : ℕ)
    → StandFrom from limit sites
    → ((d : ℕ × T) → place < length sites → offset ≤ (get_or sites place d).0) → LieWithin offset limit (drop place sites)
StandFrom-after from limit offset [] zero apart first = tt
StandFrom-after from limit offset [] (suc place) apart first = tt
StandFrom-after from limit offset (site ∷ sites) zero apart first =
    let low : offset ≤ site.0 = first site (omega arith) in
    LieWithin-StandFrom offset limit (site ∷ sites) (low, apart.1, apart.2)
StandFrom-after from limit offset (site ∷ sites) (suc place) apart first =
    StandFrom-after (site.0 + 4) limit offset sites place apart.2 (λ d inside. first d (omega arith))

-- the free place of a site, by the sites beside it
pub IsFreePlace-from : {T : Type 0} (offset place : ℕ) (sites : List (ℕ × T)) → AreSpaced sites → place ≤ length sites
    → (0 < place → (d : ℕ × T) → (get_or sites (place - 1) d).0 + 4 ≤ offset)
    → (place < length sites → (d : ℕ × T) → offset + 4 ≤ (get_or sites place d).0) → IsFreePlace sites offset place
IsFreePlace-from offset place sites spaced inside last first = record {
  inside = inside;
  before = LieWithin-before offset place sites
      (λ k d below.
      let rises = StandFrom-rises 0 (2 ^ 32 + 3) sites spaced k (place - 1) d (omega arith) (omega arith) in
      let end = last (omega arith) d in
      omega arith)
      inside;
  after = StandFrom-after 0 (2 ^ 32 + 3) (offset + 4) sites place spaced (λ d below. first below d);
}

-- each site is found at its offset
IsSome-get_or : {T : Type 0} (sites : List (ℕ × T)) (k : ℕ) (d : ℕ × T) → k < length sites → IsSome (target_at sites (get_or sites k d).0)
IsSome-get_or [] k d inside = absurd (omega arith)
IsSome-get_or (site ∷ sites) zero d inside = target_at-first site sites
IsSome-get_or (site ∷ sites) (suc k) d inside = target_at-more site sites (get_or sites k d).0 (IsSome-get_or sites k d (omega arith))

-- a site that shares a byte with one of these
pub Meets-get_or : {T : Type 0} (offset : ℕ) (sites : List (ℕ × T)) (k : ℕ) (d : ℕ × T)
    → k < length sites → SharesByte offset (get_or sites k d).0 → Meets sites offset
Meets-get_or offset sites k d inside shares = ((get_or sites k d).0, IsSome-get_or sites k d inside, shares)

-- and with its target, where sites are apart
pub target_at-get_or : {T : Type 0} (from limit : ℕ) (sites : List (ℕ × T)) (k : ℕ) (d : ℕ × T)
    → StandFrom from limit sites → k < length sites → target_at sites (get_or sites k d).0 ≡ Some (get_or sites k d).1
target_at-get_or from limit [] k d apart inside = absurd (omega arith)
target_at-get_or from limit (site ∷ sites) zero d apart inside =
    let same : nat_cmp site.0 site.0 ≡ Equal = sym (nat_cmp_is site.0 site.0 Equal refl) in
    rw same refl
target_at-get_or from limit (site ∷ sites) (suc k) d apart inside =
    let least = StandFrom-least (site.0 + 4) limit sites k d apart.2 (omega arith) in
    rw (is_at-apart (get_or sites k d).0 site.0 (λ same. omega arith))
    (target_at-get_or (site.0 + 4) limit sites k d apart.2 (omega arith))

-- there is no site at an offset that the sites before a place begin before, and the others after
pub target_at-none : {T : Type 0} (offset place : ℕ) (sites : List (ℕ × T)) → AreSpaced sites → place ≤ length sites
    → ((k : ℕ) (d : ℕ × T) → k < place → (get_or sites k d).0 < offset)
    → ((d : ℕ × T) → place < length sites → offset < (get_or sites place d).0) → target_at sites offset ≡ None
target_at-none offset place sites spaced inside before after =
    let low : LieWithin 0 (offset + 3) (take place sites) = LieWithin-before (offset + 3) place sites (λ k d below. let here = before k d below in omega arith) inside in
    let high : LieWithin (offset + 1) (2 ^ 32 + 3) (drop place sites) = StandFrom-after 0 (2 ^ 32 + 3) (offset + 1) sites place spaced (λ d below. let here = after d below in omega arith) in
    let not_low = target_at-outside 0 (offset + 3) offset (take place sites) low (inr (omega arith)) in
    let not_high = target_at-outside (offset + 1) (2 ^ 32 + 3) offset (drop place sites) high (inl (omega arith)) in
    ap (λ all. target_at all offset) (sym (take-append-drop place sites))
    ∙ target_at-append_right offset (take place sites) (drop place sites) not_low ∙ not_high

-- no site begins before an offset that the first one does not begin before
pub parts-first : {T : Type 0} (offset : ℕ) (sites : List (ℕ × T)) → AreSpaced sites
    → ((d : ℕ × T) → 0 < length sites → offset ≤ (get_or sites 0 d).0)
    → IsPartitionPoint (λ (site : ℕ × T). site.0 < offset) (λ (site : ℕ × T). offset ≤ site.0) sites 0
parts-first offset sites spaced first = (
  λ k d low below. absurd (omega arith),
  λ k d low below.
      let rises = StandFrom-rises 0 (2 ^ 32 + 3) sites spaced 0 k d (omega arith) below in
      let begins = first d (omega arith) in
      omega arith,
)

-- the sites are parted by an offset that the last one begins before
pub parts-last : {T : Type 0} (offset count : ℕ) (last : ℕ × T) (sites : List (ℕ × T)) → AreSpaced sites → count ≡ length sites
    → ((d : ℕ × T) → last ≡ get_or sites (length sites - 1) d) → last.0 < offset
    → IsPartitionPoint (λ (site : ℕ × T). site.0 < offset) (λ (site : ℕ × T). offset ≤ site.0) sites count
parts-last offset count last sites spaced all read before = (
  λ k d low below.
      let rises = StandFrom-rises 0 (2 ^ 32 + 3) sites spaced k (length sites - 1) d (omega arith) (omega arith) in
      let end : (get_or sites (length sites - 1) d).0 < offset = rw (← (read d)) before in
      omega arith,
  λ k d low below. absurd (omega arith),
)

-- what is read at a place is what is found
pub target_at-read : {T : Type 0} (offset k : ℕ) (site : ℕ × T) (sites : List (ℕ × T)) → AreSpaced sites → k < length sites
    → site ≡ get_or sites k site → site.0 ≡ offset → Some site.1 ≡ target_at sites offset
target_at-read offset k site sites spaced inside read here =
    let found = target_at-get_or 0 (2 ^ 32 + 3) sites k site spaced inside in
    let same = rw (← read) at found in
    sym (rw here at same)

pub Meets-read : {T : Type 0} (offset k : ℕ) (site : ℕ × T) (sites : List (ℕ × T)) → k < length sites
    → site ≡ get_or sites k site → SharesByte offset site.0 → Meets sites offset
Meets-read offset k site sites inside read shares =
    let at : SharesByte offset (get_or sites k site).0 = rw (← read) shares in
    Meets-get_or offset sites k site inside at

-- nothing is found where the place of an offset has another one
pub target_at-unread : {T : Type 0} (offset place : ℕ) (sites : List (ℕ × T)) → AreSpaced sites → place ≤ length sites
    → IsPartitionPoint (λ (site : ℕ × T). site.0 < offset) (λ (site : ℕ × T). offset ≤ site.0) sites place
    → ((d : ℕ × T) → place < length sites → (get_or sites place d).0 ≡ offset → ⊥) → None ≡ target_at sites offset
target_at-unread offset place sites spaced inside parts other =
    sym (target_at-none offset place sites spaced inside (λ k d below. parts.0 k d (omega arith) below)
    (λ d below.
    let least = parts.1 place d (omega arith) below in
    let unequal = other d below in
    ⊎_elim (λ less. less) (λ least_other. absurd (unequal (omega arith))) (cases_lt offset (get_or sites place d).0)))

-- a place is free where the sites before it and from it on keep clear of the offset
pub IsFreePlace-read : {T : Type 0} (offset place : ℕ) (sites : List (ℕ × T)) → AreSpaced sites → place ≤ length sites
    → (0 < place → (site : ℕ × T) × (site ≡ get_or sites (place - 1) site) × (site.0 + 4 ≤ offset))
    → (place < length sites → (site : ℕ × T) × (site ≡ get_or sites place site) × (offset + 4 ≤ site.0)) → IsFreePlace sites offset place
IsFreePlace-read offset place sites spaced inside last first =
    IsFreePlace-from offset place sites spaced inside
    (λ positive d. let before = last positive in rw (← (get_or_read sites (place - 1) before.0 (omega arith) before.1 d)) before.2)
    (λ below d. let after = first below in rw (← (get_or_read sites place after.0 below after.1 d)) after.2)

-- sites stay apart where one that meets none is put in, or none is
pub StandFrom-added : {T : Type 0} (ok : Bool) (limit offset : ℕ) (target : T) (old new : List (ℕ × T)) → StandFrom 0 limit old
    → offset + 4 ≤ limit → (ok ≡ true → Meets old offset → ⊥) → new ≡ (if ok then insert_entry nat_cmp old offset target else old) → StandFrom 0 limit new
StandFrom-added true limit offset target old new apart high free new_is =
    rw new_is (StandFrom-insert_entry 0 limit offset target old apart (omega arith) high (free refl))
StandFrom-added false limit offset target old new apart high free new_is = rw new_is apart

-- and so do those of a page
pub AreSpaced-added : {T : Type 0} (ok : Bool) (offset : ℕ) (target : T) (old new : List (ℕ × T)) → AreSpaced old → offset < 2 ^ 32
    → (Meets old offset → ⊥) → new ≡ (if ok then insert_entry nat_cmp old offset target else old) → AreSpaced new
AreSpaced-added ok offset target old new spaced small free new_is =
    StandFrom-added ok (2 ^ 32 + 3) offset target old new spaced (omega arith) (λ done meets. free meets) new_is

-- what is inserted at a free place is put in
pub IsFreePlace-added : {T : Type 0} (ok : Bool) (offset place : ℕ) (target : T) (old new : List (ℕ × T)) → IsFreePlace old offset place
    → new ≡ (if ok then insert old place (offset, target) else old) → new ≡ (if ok then insert_entry nat_cmp old offset target else old)
IsFreePlace-added true offset place target old new free new_is = new_is ∙ IsFreePlace-insert offset place target old free
IsFreePlace-added false offset place target old new free new_is = new_is

-- and so is what is pushed, where the place behind all sites is free
pub IsFreePlace-pushed : {T : Type 0} (ok : Bool) (offset : ℕ) (target : T) (old new : List (ℕ × T)) → IsFreePlace old offset (length old)
    → new ≡ (if ok then old ++ (offset, target) ∷ [] else old) → new ≡ (if ok then insert_entry nat_cmp old offset target else old)
IsFreePlace-pushed true offset target old new free new_is =
    new_is ∙ sym (insert_end old (offset, target)) ∙ IsFreePlace-insert offset (length old) target old free
IsFreePlace-pushed false offset target old new free new_is = new_is

-- as it is where the last site ends at the offset or before it
pub IsFreePlace-last : {T : Type 0} (offset : ℕ) (last : ℕ × T) (sites : List (ℕ × T)) → AreSpaced sites
    → ((d : ℕ × T) → last ≡ get_or sites (length sites - 1) d) → last.0 + 4 ≤ offset → IsFreePlace sites offset (length sites)
IsFreePlace-last offset last sites spaced read end =
    IsFreePlace-from offset (length sites) sites spaced (omega arith) (λ positive d. rw (← (read d)) end) (λ below d. absurd (omega arith))

-- whether a place is free says whether the site meets none
pub IsFreePlace-decides : {T : Type 0} (free : Bool) (offset place : ℕ) (sites : List (ℕ × T)) → MatchBool free (IsFreePlace sites offset place) (Meets sites offset)
    → MatchBool free (Meets sites offset → ⊥) (Meets sites offset)
IsFreePlace-decides true offset place sites free = IsFreePlace-free offset place sites free
IsFreePlace-decides false offset place sites meets = meets

-- the sites before one end where it begins, or earlier
StandFrom-take : {T : Type 0} (from limit : ℕ) (sites : List (ℕ × T)) (k : ℕ) (d : ℕ × T) → StandFrom from limit sites → k < length sites
    → LieWithin from (get_or sites k d).0 (take k sites)
StandFrom-take from limit [] k d apart inside = absurd (omega arith)
StandFrom-take from limit (site ∷ sites) zero d apart inside = tt
StandFrom-take from limit (site ∷ sites) (suc k) d apart inside =
    let begin : ℕ = (get_or sites k d).0 in (
      apart.0,
      StandFrom-least (site.0 + 4) limit sites k d apart.2 (omega arith),
      LieWithin-weaker (site.0 + 4) begin from begin (take k sites) (omega arith) (omega arith) (StandFrom-take (site.0 + 4) limit sites k d apart.2 (omega arith)),
    )

LieWithin-take : {T : Type 0} (from to k : ℕ) (sites : List (ℕ × T)) → LieWithin from to sites → LieWithin from to (take k sites)
LieWithin-take from to zero sites within = tt
LieWithin-take from to (suc k) [] within = tt
LieWithin-take from to (suc k) (site ∷ sites) within = (within.0, within.1, LieWithin-take from to k sites within.2)

LieWithin-get_or : {T : Type 0} (from to k : ℕ) (d : ℕ × T) (sites : List (ℕ × T)) → LieWithin from to sites → k < length sites
    → (from ≤ (get_or sites k d).0) × ((get_or sites k d).0 + 4 ≤ to)
LieWithin-get_or from to k d [] within inside = absurd (omega arith)
LieWithin-get_or from to zero d (site ∷ sites) within inside = (within.0, within.1)
LieWithin-get_or from to (suc k) d (site ∷ sites) within inside = LieWithin-get_or from to k d sites within.2 (omega arith)

-- a site of a page, put in after those before it
pub insert_entry-next : {T : Type 0} (number k : ℕ) (site : ℕ × T) (sites : List (ℕ × T)) → AreSpaced sites → LieInPage number sites → k < length sites
    → site ≡ get_or sites k site
    → LieInPage (site.0 / 4096) (take k sites) × (Meets (take k sites) site.0 → ⊥) × (insert_entry nat_cmp (take k sites) site.0 site.1 ≡ take (k + 1) sites)
insert_entry-next number k site sites spaced within inside read =
    let begin : site.0 ≡ (get_or sites k site).0 = ap (λ s. s.0) read in
    let lies = LieWithin-get_or (4096 * number) (4096 * number + 4099) k site sites within inside in
    let page : number ≡ site.0 / 4096 = omega (arith, begin, lies.0, lies.1) in
    let before : LieWithin 0 site.0 (take k sites) = rw begin (StandFrom-take 0 (2 ^ 32 + 3) sites k site spaced inside) in (
      rw (← page) (LieWithin-take (4096 * number) (4096 * number + 4099) k sites within),
      λ meets. Meets-between 0 (2 ^ 32 + 3) site.0 (take k sites) [] before tt (rw append-nil meets),
      ap (λ all. insert_entry nat_cmp all site.0 site.1) (sym (append-nil (take k sites)))
          ∙ insert_entry-append_right 0 site.0 site.0 site.1 (take k sites) [] before (omega arith)
          ∙ ap (λ s. take k sites ++ s ∷ []) read ∙ sym (take_more sites k site inside),
    )
