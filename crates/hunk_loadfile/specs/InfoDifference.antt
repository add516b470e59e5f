-- Where two load files first differ in what only debuggers read: their symbols and debug blocks.
use Rattle.std.specs.Prelude.{ℕ, ◌+◌, ◌==◌, ◌&&◌, nat_lt, max, Bool, if◌then◌else◌, List, ◌∷◌, length, Option, Some, None}
use Rattle.std.specs.Cmp.Lexicographic.{pointwise}
use Rattle.std.specs.List.{common_prefix_len}
use Rattle.std.specs.Option.{option_map, option_or}
use Rattle.hunk_loadfile.specs.LoadHunk.{FileHunk}
use Rattle.hunk_loadfile.specs.declared.info_difference.InfoDifference.{InfoDifference}
use Rattle.hunk_loadfile.specs.declared.info_difference.InfoDifference.TheVariants.{Symbol, Debug}

-- what only debuggers read of a hunk
abbrev pub info : FileHunk → List (List ℕ × ℕ) × List (List ℕ)
info hunk = (hunk.symbols, hunk.debugs)

-- two symbols with one name and one value
abbrev pub is_same_symbol : List ℕ × ℕ → List ℕ × ℕ → Bool
is_same_symbol first second = pointwise ◌==◌ first.0 second.0 && first.1 == second.1

-- two debug blocks with the same longwords
abbrev pub is_same_debug : List ℕ → List ℕ → Bool
is_same_debug first second = pointwise ◌==◌ first second

-- the index of the first element that two lists do not both have, if there is one: it is the number of elements
-- that both begin with
abbrev pub first_unshared : {X : Type 0} → (X → X → Bool) → List X → List X → Option ℕ
first_unshared same first second =
    if nat_lt (common_prefix_len same first second) (max (length first) (length second))
    then Some (common_prefix_len same first second)
    else None

-- of the hunks with this number: the symbols come first
abbrev pub hunk_info_difference : ℕ → FileHunk → FileHunk → Option InfoDifference
hunk_info_difference number first second =
    option_or (option_map (Symbol number) (first_unshared is_same_symbol first.symbols second.symbols))
    (option_map (Debug number) (first_unshared is_same_debug first.debugs second.debugs))

-- The first difference of hunks in the same places, which are numbered from this number on.
abbrev pub hunks_info_difference : ℕ → List FileHunk → List FileHunk → Option InfoDifference
hunks_info_difference number (first ∷ firsts) (second ∷ seconds) = option_or (hunk_info_difference number first second) (hunks_info_difference (number + 1) firsts seconds)
hunks_info_difference number _ _ = None

abbrev pub first_info_difference : List FileHunk → List FileHunk → Option InfoDifference
first_info_difference first second = hunks_info_difference 0 first second
