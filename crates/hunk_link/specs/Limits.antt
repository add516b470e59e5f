-- How much units may have that are linked (our own limits).
use Rattle.std.specs.Prelude.{◌≡◌, ◌⊎◌, ℕ, ◌+◌, ◌<◌, ◌≤◌, Bool, true, false, List, length, sum_by, Option, MatchOption}
use Rattle.hunk_loadfile.specs.Rules.{info_longwords, most_carried, most_hunks, most_size}
use Rattle.hunk_objects.specs.UnitHunk.{ObjectHunk}
use Rattle.hunk_link.specs.Ranks.{RankedHunk}
use Rattle.hunk_link.specs.declared.limits.Room.{Room}
use Rattle.hunk_link.specs.declared.refusal.LinkRefusal.{LinkRefusal}
use Rattle.hunk_link.specs.declared.refusal.LinkRefusal.TheVariants.{NoHunks, TooManyHunks, TooLarge}

-- the longwords of the hunks in memory
abbrev pub size_of : List RankedHunk → ℕ
size_of hunks = sum_by (λ ranked. ranked.hunk.size) hunks

-- The longwords that the symbols and debug blocks of a hunk take in a file: none if they are
-- stripped.
abbrev pub carried_by : Bool → ObjectHunk → ℕ
carried_by true hunk = 0
carried_by false hunk = info_longwords hunk.symbols hunk.debugs

abbrev pub carried_longwords : Bool → List RankedHunk → ℕ
carried_longwords strip hunks = sum_by (λ ranked. carried_by strip ranked.hunk) hunks

-- as many hunks as a load file may have
pub record IsHunkCount (hunks : List RankedHunk) : Type 0 where
  pub some : 1 ≤ length hunks
  pub few : length hunks ≤ most_hunks

-- no longer than a load file may be
pub record IsSmall (strip : Bool) (hunks : List RankedHunk) : Type 0 where
  pub size : size_of hunks ≤ most_size
  pub carried : carried_longwords strip hunks ≤ most_carried

-- the limit that they pass
abbrev pub IsOverLimit : {A : Type 0} → Bool → List RankedHunk → LinkRefusal A → Type 0
IsOverLimit strip hunks NoHunks = length hunks ≡ 0
IsOverLimit strip hunks TooManyHunks = most_hunks < length hunks
IsOverLimit strip hunks TooLarge = IsHunkCount hunks × (¬ IsSmall strip hunks)
IsOverLimit strip hunks _ = ⊥

-- ---- in the code

-- What is left of the room after so many longwords of hunks and of symbols and debug blocks; none if
-- they do not fit.
abbrev pub Leaves : Room → (size carried : ℕ) → Option Room → Type 0
Leaves room size carried result =
    MatchOption result
    ((room.size < size) ⊎ (room.carried < carried))
    (λ left. (left.size + size ≡ room.size) × (left.carried + carried ≡ room.carried))
