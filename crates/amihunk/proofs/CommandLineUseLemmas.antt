-- A use of an argument with which nothing is wrong, and a default, leave a value in each row.
use Rattle.std.proofs.Common.{◌≡◌, ◌∙◌, ◌⊎◌, ◌≤◌, ◌&&◌, ◌||◌, ◌==◌, ℕ, zero, suc, Bool, true, false, cond, ap, append-nil, refl, subst, sym, inl, inr, arith, List, [], ◌∷◌, ◌++◌, codes, length, length-append, lt-ltb, Option, Some, None, is_some}
use Rattle.std.specs.Prelude.{⊤, find, fold, if◌then◌else◌, slice_get}
use Rattle.std.specs.Option.{option_and_then, option_map_or}
use Rattle.std.specs.Str.{bytes_eq}
use Rattle.std.proofs.lemmas.Bool.{ne_eqb}
use Rattle.std.proofs.lemmas.List.Folds.{list_any-append}
use Rattle.std.proofs.lemmas.Slice.Eq.{bytes_eq-Decides}
use Rattle.clap.specs.Facts.{explicit_source, unwrap_or_range}
use Rattle.clap.specs.Kinds.{Kinds, or_else, range_kinds}
use Rattle.clap.specs.Values.{bool_text}
use Rattle.clap.specs.Walk.{Row, Rule, Text, action_of, at_row, default_rows, has_row, is_empty, more_values, most_values, reading_by, row_text, used, values_or_missing, with_default, with_values, without}
use Rattle.clap.specs.Takes.{is_given}
use Rattle.clap.specs.Words.{one_text, rows_of}
use Rattle.clap.specs.declared.parser.matches.Found.{Found}
use Rattle.clap.proofs.WalkLemmas.{one_text-rows}
use Rattle.clap.specs.Faults.{action_fault, repeat_fault, set_fault, use_fault, values_fault}
use Rattle.clap.specs.declared.ArgAction.TheVariants.{Append, Help, Set, SetTrue}
use Rattle.clap.specs.declared.builder.range.ValueRange.{ValueRange}
use Rattle.clap.specs.declared.builder.value_parser.Reading.{Reading}
use Rattle.clap.specs.declared.builder.value_parser.Reading.TheVariants.{AsWritten}
use Rattle.clap.specs.declared.parser.matches.ValueSource.{ValueSource}
use Rattle.clap.specs.declared.parser.matches.ValueSource.TheVariants.{CommandLine, DefaultValue}
use Rattle.clap.specs.declared.error.ErrorKind.TheVariants.{ArgumentConflict}
use Rattle.amihunk.specs.CommandLine.{HasValue, IsFlag}

-- the row of a flag that was given, or that has its default
pub record IsFlagRow (r : Row) (given : Bool) : Type 0 where
  pub values_are : r.values ≡ bool_text given ∷ []
  pub source_is : explicit_source r.source ≡ given
  pub reading_is : r.reading ≡ AsWritten

-- the names of the flags
abbrev pub is_flag : Text → Bool
is_flag id = bytes_eq id (codes "strip") || (bytes_eq id (codes "short") || (bytes_eq id (codes "trim") || (bytes_eq id (codes "globals") || (bytes_eq id (codes "srec") || (bytes_eq id (codes "symbols") || (bytes_eq id (codes "json") || (bytes_eq id (codes "content") || (bytes_eq id (codes "html") || (bytes_eq id (codes "names") || (bytes_eq id (codes "normal") || (bytes_eq id (codes "lines") || (bytes_eq id (codes "digest") || (bytes_eq id (codes "wait") || (bytes_eq id (codes "lint") || bytes_eq id (codes "explain")))))))))))))))

-- the row has a value, and if it is that of a flag, it is the row of one
abbrev pub IsFilledRow : Row → Type 0
IsFilledRow r = (1 ≤ length r.values) × (is_flag r.id ≡ true → (given : Bool) × IsFlagRow r given)

-- the argument is a flag, which takes no value
pub record IsSwitch (a : Rule) : Type 0 where
  pub action_is : action_of a ≡ SetTrue
  pub range_is : unwrap_or_range a.range ≡ record { start_inclusive = 0; end_inclusive = 0 }
  pub missing_is : a.missing ≡ codes "true" ∷ []
  pub reading_is : reading_by a ≡ AsWritten
  pub defaults_are : a.defaults ≡ codes "false" ∷ []
  pub named : is_flag a.id ≡ true
  pub optional : a.required ≡ false

-- a use of the argument asks for help, or gives it at least one value, or sets a flag, which may not be used
-- again and is unset by default
pub data IsRegular (again : Bool) (a : Rule) : Type 0 where
  asks_help : action_of a ≡ Help → a.defaults ≡ [] → a.required ≡ false → IsRegular again a
  is_valued : (action_of a ≡ Set) ⊎ (action_of a ≡ Append) → 1 ≤ (unwrap_or_range a.range).start_inclusive → is_flag a.id ≡ false → a.defaults ≡ [] → IsRegular again a
  is_switched : IsSwitch a → again ≡ false → IsRegular again a

-- each of them is so
abbrev pub Each : {A : Type 0} → (A → Type 0) → List A → Type 0
Each P [] = ⊤
Each P (x ∷ xs) = P x × Each P xs

-- and so what is found among them
pub find-each : {A : Type 0} (P : A → Type 0) (p : A → Bool) (xs : List A) (a : A) → Each P xs → find p xs ≡ Some a → P a
find-each P p [] a all found = cc
find-each P p (x ∷ xs) a all found = go (p x) found (find-each P p xs a all.1)
  where
    go : (b : Bool) → cond b (Some x) (find p xs) ≡ Some a → (find p xs ≡ Some a → P a) → P a
    go true e rest = let same : x ≡ a = cc in subst P same all.0
    go false e rest = rest e

abbrev pub Filled : List Row → Type 0
Filled = Each IsFilledRow

abbrev pub AllRegular : Bool → List Rule → Type 0
AllRegular again = Each (IsRegular again)

pub or_else-nil : (xs ys : Kinds) → or_else xs ys ≡ [] → (xs ≡ []) × (ys ≡ [])
or_else-nil [] ys e = (refl, e)
or_else-nil (x ∷ xs) ys e = cc

-- ---- rows

filled-append : (xs ys : List Row) → Filled xs → Filled ys → Filled (xs ++ ys)
filled-append [] ys h k = k
filled-append (x ∷ xs) ys h k = (h.0, filled-append xs ys h.1 k)

filled-at_row : (id : Text) (change : Row → List Row) (missing : List Row)
    → ((r : Row) → bytes_eq r.id id ≡ true → 1 ≤ length r.values → Filled (change r))
    → Filled missing → (rows : List Row) → Filled rows → Filled (at_row id change missing rows)
filled-at_row id change missing changed none [] h = none
filled-at_row id change missing changed none (r ∷ rs) h = go (bytes_eq r.id id) refl (filled-at_row id change missing changed none rs h.1)
  where
    go : (b : Bool) → bytes_eq r.id id ≡ b → Filled (at_row id change missing rs)
        → Filled (cond b (change r ++ rs) (r ∷ at_row id change missing rs))
    go true same rest = filled-append (change r) rs (changed r same h.0.0) h.1
    go false same rest = (h.0, rest)

filled-with_values : (id : Text) (how : Reading) (source : ValueSource) (values : List Text) (rows : List Row) → is_flag id ≡ false
    → 1 ≤ length values → Filled rows → Filled (with_values id how source values rows)
filled-with_values id how source values rows other some h =
    let first : Row = record { id = id; values = values; count = None; source = Some source; reading = how } in
    let named : is_flag id ≡ true → (given : Bool) × IsFlagRow first given = λ e. let both : true ≡ false = sym e ∙ other in cc in
    let more : (r : Row) → bytes_eq r.id id ≡ true → 1 ≤ length r.values → Filled (more_values source values r) =
    λ r same full. ((rw length-append (omega arith), λ e. let both : true ≡ false = sym e ∙ (ap is_flag ((bytes_eq-Decides r.id id).0 same) ∙ other) in cc), tt) in
    filled-at_row id (more_values source values) (first ∷ []) more ((some, named), tt) rows h

-- an id that has no row
at_row-missing : (id : Text) (change : Row → List Row) (missing : List Row) (rows : List Row) → has_row id rows ≡ false
    → at_row id change missing rows ≡ rows ++ missing
at_row-missing id change missing [] none = refl
at_row-missing id change missing (r ∷ rs) none = go (bytes_eq r.id id) none (at_row-missing id change missing rs)
  where
    go : (b : Bool) → (b || has_row id rs) ≡ false → (has_row id rs ≡ false → at_row id change missing rs ≡ rs ++ missing)
        → cond b (change r ++ rs) (r ∷ at_row id change missing rs) ≡ r ∷ (rs ++ missing)
    go true e rest = cc
    go false e rest = ap (λ x. r ∷ x) (rest e)

-- a flag that has no row gets one
filled-flag : (id : Text) (source : ValueSource) (given : Bool) (rows : List Row) → explicit_source (Some source) ≡ given → has_row id rows ≡ false
    → Filled rows → Filled (with_values id AsWritten source (bool_text given ∷ []) rows)
filled-flag id source given rows is none h =
    let row : Row = record { id = id; values = bool_text given ∷ []; count = None; source = Some source; reading = AsWritten } in
    rw (at_row-missing id (more_values source (bool_text given ∷ [])) (row ∷ []) rows none)
    (filled-append rows (row ∷ []) h ((omega arith, λ e. (given, record { values_are = refl; source_is = is; reading_is = refl })), tt))

-- ---- uses

value_needed : (least most n : ℕ) → 1 ≤ least → range_kinds least most n ≡ [] → 1 ≤ n
value_needed least most zero h e =
    let positive = lt-ltb 0 least h in
    let bad = rw positive at e in
    cc
value_needed least most (suc n) h e = omega arith

values_needed : (a : Rule) (values : List Text) → 1 ≤ length values → 1 ≤ length (values_or_missing a values)
values_needed a [] h = absurd (omega arith)
values_needed a (v ∷ vs) h = h

values_unwanted : (values : List Text) → range_kinds 0 0 (length values) ≡ [] → values ≡ []
values_unwanted [] e = refl
values_unwanted (v ∷ vs) e =
    let more : (0 == suc (length vs)) ≡ false = ne_eqb 0 (suc (length vs)) (λ zero_is. absurd (omega (arith, zero_is))) in
    let bad = rw more at e in
    cc

not_repeated : (id : Text) (rows : List Row) → repeat_fault false id rows ≡ [] → has_row id rows ≡ false
not_repeated id rows = go (has_row id rows)
  where
    go : (b : Bool) → (if b && true then ArgumentConflict ∷ [] else []) ≡ [] → b ≡ false
    go true e = cc
    go false e = refl

pub filled-used : (again : Bool) (a : Rule) (values : List Text) (rows : List Row) → IsRegular again a → use_fault again a values rows ≡ []
    → Filled rows → Filled (used a values rows)
filled-used again a values rows (asks_help help none optional) e h = rw help h
filled-used again a values rows (is_valued action least other none) e h =
    let some = values_needed a values (value_needed (unwrap_or_range a.range).start_inclusive (most_values a) (length values) least (or_else-nil _ _ e).0) in
    elim action [
      | inl set ↦ rw set (filled-with_values a.id (reading_by a) CommandLine (values_or_missing a values) (without a.id rows) other some (filled-at_row a.id (λ _. []) [] (λ r same full. tt) tt rows h))
      | inr append ↦ rw append (filled-with_values a.id (reading_by a) CommandLine (values_or_missing a values) rows other some h)
    ]
filled-used again a values rows (is_switched flag once) e h =
    let parts = or_else-nil (range_kinds (unwrap_or_range a.range).start_inclusive (most_values a) (length values)) (action_fault (action_of a) again a (values_or_missing a values) rows) e in
    let no_value : values ≡ [] =
    values_unwanted values (subst (λ (r : ValueRange). range_kinds r.start_inclusive r.end_inclusive (length values) ≡ []) flag.range_is parts.0) in
    let acted : set_fault again a (values_or_missing a values) rows ≡ [] =
    subst (λ x. action_fault x again a (values_or_missing a values) rows ≡ []) flag.action_is parts.1 in
    let unused : has_row a.id rows ≡ false =
    not_repeated a.id rows (subst (λ b. repeat_fault b a.id rows ≡ []) once (or_else-nil (repeat_fault again a.id rows) (values_fault a (values_or_missing a values)) acted).0) in
    let bare : without a.id rows ≡ rows = at_row-missing a.id (λ _. []) [] rows unused ∙ append-nil rows in
    rw (flag.action_is, no_value, flag.missing_is, flag.reading_is, bare) (filled-flag a.id CommandLine true rows refl unused h)

-- ---- defaults

filled-with_default : (again : Bool) (rows : List Row) (a : Rule) → IsRegular again a → Filled rows → Filled (with_default rows a)
filled-with_default again rows a regular h = go (has_row a.id rows) refl
  where
    added : IsRegular again a → has_row a.id rows ≡ false → Filled (default_rows a.id (reading_by a) a.defaults rows)
    added (asks_help help none optional) unused = rw none h
    added (is_valued action least other none) unused = rw none h
    added (is_switched flag once) unused = rw (flag.defaults_are, flag.reading_is) (filled-flag a.id DefaultValue false rows refl unused h)

    go : (b : Bool) → has_row a.id rows ≡ b → Filled (cond b rows (default_rows a.id (reading_by a) a.defaults rows))
    go true is = h
    go false is = added regular is

pub filled-defaults : (again : Bool) (c : List Rule) (rows : List Row) → AllRegular again c → Filled rows → Filled (fold with_default rows c)
filled-defaults again [] rows all h = h
filled-defaults again (a ∷ rest) rows all h = filled-defaults again rest (with_default rows a) all.1 (filled-with_default again rows a all.0 h)

or_true : (b : Bool) → (b || true) ≡ true
or_true true = refl
or_true false = refl

-- what had a row still has one, and so has an argument with a default
has_row-with_default : (id : Text) (rows : List Row) (a : Rule) → (has_row id rows ≡ true) ⊎ ((a.id ≡ id) × (is_empty a.defaults ≡ false)) → has_row id (with_default rows a) ≡ true
has_row-with_default id rows a reason = go (has_row a.id rows) refl
  where
    added : (values : List Text) → a.defaults ≡ values → has_row a.id rows ≡ false → has_row id (default_rows a.id (reading_by a) values rows) ≡ true
    added [] are unused = elim reason [
      | inl has ↦ has
      | inr default ↦ let some : true ≡ false = sym (ap is_empty are) ∙ default.1 in cc
    ]
    added (v ∷ vs) are unused =
        let row : Row = record { id = a.id; values = v ∷ vs; count = None; source = Some DefaultValue; reading = reading_by a } in
        rw (at_row-missing a.id (more_values DefaultValue (v ∷ vs)) (row ∷ []) rows unused, list_any-append (λ (r : Row). bytes_eq r.id id) rows (row ∷ []))
        (elim reason [
          | inl has ↦ rw has refl
          | inr default ↦ rw ((bytes_eq-Decides a.id id).1 default.0) (or_true (has_row id rows))
        ])

    go : (b : Bool) → has_row a.id rows ≡ b → has_row id (cond b rows (default_rows a.id (reading_by a) a.defaults rows)) ≡ true
    go true is = elim reason [
      | inl has ↦ has
      | inr default ↦ subst (λ x. has_row x rows ≡ true) default.0 is
    ]
    go false is = added a.defaults refl is

has_row-kept : (id : Text) (c : List Rule) (rows : List Row) → has_row id rows ≡ true → has_row id (fold with_default rows c) ≡ true
has_row-kept id [] rows has = has
has_row-kept id (a ∷ rest) rows has = has_row-kept id rest (with_default rows a) (has_row-with_default id rows a (inl has))

-- each argument with a default has a row
abbrev pub AreDefaulted : List Rule → List Row → Type 0
AreDefaulted [] rows = ⊤
AreDefaulted (a ∷ rest) rows = (is_empty a.defaults ≡ false → has_row a.id rows ≡ true) × AreDefaulted rest rows

pub defaulted : (c : List Rule) (rows : List Row) → AreDefaulted c (fold with_default rows c)
defaulted [] rows = tt
defaulted (a ∷ rest) rows =
    (λ some. has_row-kept a.id rest (with_default rows a) (has_row-with_default a.id rows a (inr (refl, some))), defaulted rest (with_default rows a))

-- ---- the values of filled rows

-- what is found for an id, if something is
abbrev IsFoundRow : Text → List Row → Option Row → Type 0
IsFoundRow id rows None = has_row id rows ≡ false
IsFoundRow id rows (Some r) = IsFilledRow r × (bytes_eq r.id id ≡ true)

find-filled : (id : Text) (rows : List Row) → Filled rows → IsFoundRow id rows (find (λ x. bytes_eq x.id id) rows)
find-filled id [] h = refl
find-filled id (x ∷ xs) h = go (bytes_eq x.id id) refl (find (λ y. bytes_eq y.id id) xs) (find-filled id xs h.1)
  where
    go : (b : Bool) → bytes_eq x.id id ≡ b → (o : Option Row) → IsFoundRow id xs o → IsFoundRow id (x ∷ xs) (cond b (Some x) o)
    go true same o rest = (h.0, same)
    go false same None rest = rw same rest
    go false same (Some r) rest = rest

first_given : (values : List Text) → 1 ≤ length values → is_some (slice_get values 0) ≡ true
first_given [] h = absurd (omega arith)
first_given (v ∷ vs) h = refl

-- an argument that was given has a value
pub value_given : (id : Text) (rows : List Row) → Filled rows → is_given id rows ≡ true → HasValue rows id
value_given id rows h = go (find (λ x. bytes_eq x.id id) rows) (find-filled id rows h)
  where
    go : (o : Option Row) → IsFoundRow id rows o → option_map_or (λ (r : Row). explicit_source r.source) o false ≡ true
        → is_some (option_and_then (λ (r : Row). slice_get r.values 0) o) ≡ true
    go None found given = cc
    go (Some r) found given = first_given r.values found.0.0

-- what is read of a flag says whether it was given
pub flag_read : (name : Text) (rows : List Row) → is_flag name ≡ true → Filled rows → has_row name rows ≡ true → IsFlag rows name
flag_read name rows is h has = go (find (λ x. bytes_eq x.id name) rows) (find-filled name rows h)
  where
    go : (o : Option Row) → IsFoundRow name rows o → option_and_then row_text o ≡ Some (bool_text (option_map_or (λ (r : Row). explicit_source r.source) o false))
    go None found = let both : true ≡ false = sym has ∙ found in cc
    go (Some r) found =
        let flag = found.0.1 (ap is_flag ((bytes_eq-Decides r.id name).0 found.1) ∙ is) in
        rw (flag.1.values_are, flag.1.reading_is, flag.1.source_is) refl

-- and so is what the caller reads of it
pub flag_value : (found : Found) (name : Text) (value : Bool) → IsFlag (rows_of found) name
    → (one_text found name ≡ Some (codes "true") → value ≡ true) → (one_text found name ≡ Some (codes "false") → value ≡ false) → value ≡ is_given name (rows_of found)
flag_value found name value is on off = go (is_given name (rows_of found)) (one_text-rows found name ∙ is)
  where
    go : (given : Bool) → one_text found name ≡ Some (bool_text given) → value ≡ given
    go true read = on read
    go false read = off read
