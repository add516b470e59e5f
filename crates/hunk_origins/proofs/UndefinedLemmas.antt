-- The uses of names, one reference after another.
use Rattle.std.proofs.Common.{◌≡◌, ◌∙◌, ℕ, zero, suc, ◌+◌, ◌<◌, Bool, true, false, cond, not, List, [], ◌∷◌, ◌++◌, None, Some, if◌then◌else◌, length, get_or, take, map, refl, sym, ap, arith}
use Rattle.std.specs.Prelude.{count_by, slice_get}
use Rattle.std.specs.Cmp.Lexicographic.{other_text, same_text}
use Rattle.std.specs.Map.{lookup}
use Rattle.std.proofs.lemmas.List.{map_more}
use Rattle.std.proofs.lemmas.List.Elements.{filter-append}
use Rattle.std.proofs.lemmas.List.Sums.{sum_by-append}
use Rattle.indexmap.specs.IndexMap.{insert_entry}
use Rattle.hunk_origins.specs.DefinedNames.{is_defined, is_name}
use Rattle.hunk_origins.specs.Origins.{Origin}
use Rattle.hunk_origins.specs.Undefined.{Reference, Use, Uses, look_up, next_use, undefined, uses_of, without}

-- there is something at an index within a list
pub slice_get-within : {X : Type 0} (xs : List X) (i : ℕ) → i < length xs → None ≡ slice_get xs i → ⊥
slice_get-within [] i within none = omega (arith, within)
slice_get-within (x ∷ xs) zero within none = cc
slice_get-within (x ∷ xs) (suc i) within none = slice_get-within xs i (omega (arith, within)) none

-- ---- names that are equal, or not

name-same : (name : List ℕ) → is_name name name ≡ true
name-same name = by (is_name name name) refl
  where
    by : (same : Bool) → same ≡ is_name name name → is_name name name ≡ true
    by true is = sym is
    by false is = absurd (other_text name name is refl)

other-turned : (one other : List ℕ) → is_name one other ≡ false → is_name other one ≡ false
other-turned one other differ = by (is_name other one) refl
  where
    by : (same : Bool) → same ≡ is_name other one → is_name other one ≡ false
    by true is = absurd (other_text one other (sym differ) (sym (same_text other one is)))
    by false is = sym is

-- ---- an entry that is inserted

abbrev inserted : Uses → List ℕ → Use → Uses
inserted uses name used = insert_entry is_name uses name used

without-inserted_same : (name : List ℕ) (used : Use) (uses : Uses) → without name (inserted uses name used) ≡ without name uses
without-inserted_same name used [] = ap (λ same. cond (not same) ((name, used) ∷ []) []) (name-same name)
without-inserted_same name used (e ∷ uses) = by (is_name name e.0) refl (without-inserted_same name used uses)
  where
    rest : Uses
    rest = without name uses

    more : Uses
    more = without name (inserted uses name used)

    by : (same : Bool) → same ≡ is_name name e.0 → more ≡ rest
        → without name (if same then (e.0, used) ∷ uses else e ∷ inserted uses name used) ≡ cond (not (is_name name e.0)) (e ∷ rest) rest
    by true is others = ap (λ same. cond (not same) ((e.0, used) ∷ rest) rest) (sym is) ∙ sym (ap (λ same. cond (not same) (e ∷ rest) rest) (sym is))
    by false is others = ap (λ same. cond (not same) (e ∷ more) more) (sym is) ∙ ap (λ us. e ∷ us) others ∙ sym (ap (λ same. cond (not same) (e ∷ rest) rest) (sym is))

without-inserted_other : (left name : List ℕ) (used : Use) (uses : Uses) → is_name left name ≡ false → without left (inserted uses name used) ≡ inserted (without left uses) name used
without-inserted_other left name used [] differ = ap (λ same. cond (not same) ((name, used) ∷ []) []) differ
without-inserted_other left name used (e ∷ uses) differ = by (is_name name e.0) (is_name left e.0) refl refl (without-inserted_other left name used uses differ)
  where
    rest : Uses
    rest = without left uses

    more : Uses
    more = without left (inserted uses name used)

    kept : Bool → Uses
    kept same = inserted (cond (not same) (e ∷ rest) rest) name used

    by : (same gone : Bool) → same ≡ is_name name e.0 → gone ≡ is_name left e.0 → more ≡ inserted rest name used
        → without left (if same then (e.0, used) ∷ uses else e ∷ inserted uses name used) ≡ kept (is_name left e.0)
    by true gone is at others =
        let stays : is_name left e.0 ≡ false = ap (is_name left) (sym (same_text name e.0 is)) ∙ differ in
        ap (λ same. cond (not same) ((e.0, used) ∷ rest) rest) stays ∙ sym (ap (λ same. if same then (e.0, used) ∷ rest else e ∷ inserted rest name used) (sym is)) ∙ sym (ap kept stays)
    by false true is at others = ap (λ same. cond (not same) (e ∷ more) more) (sym at) ∙ others ∙ sym (ap kept (sym at))
    by false false is at others =
        ap (λ same. cond (not same) (e ∷ more) more) (sym at) ∙ ap (λ us. e ∷ us) others ∙ sym (ap (λ same. if same then (e.0, used) ∷ rest else e ∷ inserted rest name used) (sym is))
        ∙ sym (ap kept (sym at))

look_up-without : (left name : List ℕ) (uses : Uses) → is_name left name ≡ false → look_up (without left uses) name ≡ look_up uses name
look_up-without left name [] differ = refl
look_up-without left name (e ∷ uses) differ = by (is_name left e.0) refl (look_up-without left name uses differ)
  where
    rest : Uses
    rest = without left uses

    by : (gone : Bool) → gone ≡ is_name left e.0 → look_up rest name ≡ look_up uses name
        → look_up (cond (not (is_name left e.0)) (e ∷ rest) rest) name ≡ cond (is_name name e.0) (Some e.1) (look_up uses name)
    by true at others =
        let differs : is_name name e.0 ≡ false = ap (is_name name) (sym (same_text left e.0 at)) ∙ other-turned left name differ in
        ap (λ gone. look_up (cond (not gone) (e ∷ rest) rest) name) (sym at) ∙ others ∙ sym (ap (λ same. cond same (Some e.1) (look_up uses name)) differs)
    by false at others = ap (λ gone. look_up (cond (not gone) (e ∷ rest) rest) name) (sym at) ∙ ap (λ found. cond (is_name name e.0) (Some e.1) found) others

-- ---- one more reference

refers : List ℕ → Reference → Bool
refers name reference = is_name name reference.0

count-more : (name : List ℕ) (references : List Reference) (last : Reference) (same : Bool) → same ≡ is_name name last.0
    → count_by (λ reference. is_name name reference.0) (references ++ last ∷ []) ≡ count_by (λ reference. is_name name reference.0) references + cond same 1 0
count-more name references last same is =
    let number : Bool → ℕ = λ b. cond b 1 0 in
    let one : Reference → ℕ = λ reference. number (is_name name reference.0) in
    omega (arith, sum_by-append one references (last ∷ []), ap number is)

-- the uses with one more reference to this name
abbrev pub with_reference : Uses → Reference → Uses
with_reference uses reference = inserted uses reference.0 (next_use (look_up uses reference.0) reference.1)

pub uses_of-more : (references : List Reference) (last : Reference) → uses_of (references ++ last ∷ []) ≡ with_reference (uses_of references) last
uses_of-more [] last = refl
uses_of-more (first ∷ others) last = by (is_name first.0 last.0) refl (uses_of-more others last)
  where
    before : Uses
    before = uses_of others

    rest : Uses
    rest = without first.0 before

    count : ℕ
    count = count_by (λ reference. is_name first.0 reference.0) others

    used : ℕ → Use
    used n = record { origin = first.1; count = suc n }

    whole : Uses
    whole = (first.0, used count) ∷ rest

    -- the result as the tests for the first name tell
    result : Bool → Uses
    result same = if same then (first.0, next_use (cond same (Some (used count)) (look_up rest last.0)) last.1) ∷ rest else (first.0, used count) ∷ inserted rest last.0 (next_use (cond same (Some (used count)) (look_up rest last.0)) last.1)

    by : (same : Bool) → same ≡ is_name first.0 last.0 → uses_of (others ++ last ∷ []) ≡ with_reference before last
        → (first.0, used (count_by (λ reference. is_name first.0 reference.0) (others ++ last ∷ []))) ∷ without first.0 (uses_of (others ++ last ∷ [])) ≡ result (is_name last.0 first.0)
    by true is more =
        let one : first.0 ≡ last.0 = same_text first.0 last.0 is in
        let turned : is_name last.0 first.0 ≡ true = ap (λ n. is_name n first.0) (sym one) ∙ name-same first.0 in
        let counted : count_by (λ reference. is_name first.0 reference.0) (others ++ last ∷ []) ≡ suc count = omega (arith, count-more first.0 others last true is) in
        let others_stay : without first.0 (uses_of (others ++ last ∷ [])) ≡ rest =
        ap (without first.0) more
        ∙ ap (λ n. without first.0 (inserted before n (next_use (look_up before last.0) last.1))) (sym one)
        ∙ without-inserted_same first.0 (next_use (look_up before last.0) last.1) before in
        (λ j. (first.0, used (counted j)) ∷ others_stay j) ∙ sym (ap result turned)
    by false is more =
        let turned : is_name last.0 first.0 ≡ false = other-turned first.0 last.0 (sym is) in
        let counted : count_by (λ reference. is_name first.0 reference.0) (others ++ last ∷ []) ≡ count = omega (arith, count-more first.0 others last false is) in
        let others_more : without first.0 (uses_of (others ++ last ∷ [])) ≡ inserted rest last.0 (next_use (look_up rest last.0) last.1) =
        ap (without first.0) more
        ∙ without-inserted_other first.0 last.0 (next_use (look_up before last.0) last.1) before (sym is)
        ∙ ap (λ found. inserted rest last.0 (next_use found last.1)) (sym (look_up-without first.0 last.0 before (sym is))) in
        (λ j. (first.0, used (counted j)) ∷ others_more j) ∙ sym (ap result turned)

-- ---- the references of a hunk, in the order of its names

abbrev pub from_hunk : Origin → List (List ℕ) → List Reference
from_hunk origin names = map (λ name. (name, origin)) names

-- one that is defined, and one that is not
pub undefined-more : (hunks : List Origin) (origin : Origin) (names : List (List ℕ)) (i : ℕ) (name : List ℕ) (defined : Bool) → i < length names → name ≡ get_or names i name → defined ≡ is_defined name hunks
    → undefined hunks (from_hunk origin (take (i + 1) names)) ≡ undefined hunks (from_hunk origin (take i names)) ++ cond (not defined) ((name, origin) ∷ []) []
undefined-more hunks origin names i name defined within is told =
    let reference : List ℕ → Reference = λ n. (n, origin) in
    let test : Reference → Bool = λ r. not (is_defined r.0 hunks) in
    ap (undefined hunks) (map_more reference names i name within ∙ ap (λ n. from_hunk origin (take i names) ++ reference n ∷ []) (sym is))
    ∙ filter-append test (from_hunk origin (take i names)) ((name, origin) ∷ [])
    ∙ ap (λ b. undefined hunks (from_hunk origin (take i names)) ++ cond (not b) ((name, origin) ∷ []) []) (sym told)
