-- How a load file compares with a first one.
use Rattle.std.specs.Prelude.{◌≡◌, ◌<◌, ℕ, List, length, slice_get, Option, Some, None, IfSome}
use Rattle.hunk_loadfile.specs.Difference.{first_difference, hunks_difference}
use Rattle.hunk_loadfile.specs.InfoDifference.{first_info_difference, hunks_info_difference}
use Rattle.hunk_loadfile.specs.LoadFile.{IsLoadOf}
use Rattle.hunk_loadfile.specs.LoadHunk.{FileHunk}
use Rattle.hunk_loadfile.specs.declared.comparison.Comparison.{Comparison}
use Rattle.hunk_loadfile.specs.declared.info_difference.InfoDifference.{InfoDifference}
use Rattle.hunk_loadfile.specs.declared.info_difference.InfoDifference.TheVariants.{Symbol, Debug}

-- ---- the symbol that differs

-- of a hunk, by a difference of hunks with its number
abbrev pub symbol_there : FileHunk → Option InfoDifference → Option (List ℕ × ℕ)
symbol_there hunk (Some (Symbol number index)) = slice_get hunk.symbols index
symbol_there hunk _ = None

abbrev pub symbol_in : Option FileHunk → Option InfoDifference → Option (List ℕ × ℕ)
symbol_in (Some hunk) difference = symbol_there hunk difference
symbol_in None difference = None

-- the number of the hunk
abbrev pub hunk_of : InfoDifference → ℕ
hunk_of (Symbol hunk index) = hunk
hunk_of (Debug hunk index) = hunk

-- of the hunk that the difference is about
abbrev pub differing_symbol : List FileHunk → Option InfoDifference → Option (List ℕ × ℕ)
differing_symbol hunks (Some difference) = symbol_in (slice_get hunks (hunk_of difference)) (Some difference)
differing_symbol hunks None = None

-- ---- what is found

-- in the first hunks of the second file, with those of the first
pub record HasFound {A : Type 0} (found : Comparison A) (firsts seconds : List FileHunk) : Type 0 where
  pub difference : found.difference ≡ hunks_difference 0 firsts seconds
  pub info_difference : found.info_difference ≡ hunks_info_difference 0 firsts seconds
  pub within : IfSome found.info_difference (λ difference. hunk_of difference < length seconds)
  pub symbol : found.symbol ≡ differing_symbol seconds found.info_difference

-- in the files of these hunks
pub record Compares {A : Type 0} (comparison : Comparison A) (firsts seconds : List FileHunk) : Type 0 where
  pub difference : comparison.difference ≡ first_difference firsts seconds
  pub info_difference : comparison.info_difference ≡ first_info_difference firsts seconds
  pub symbol : comparison.symbol ≡ differing_symbol seconds comparison.info_difference

-- The bytes are a load file, which compares so with the one of these hunks.
pub record IsComparedWith {A : Type 0} (firsts : List FileHunk) (comparison : Comparison A) (bytes : List ℕ) : Type 0 where
  pub seconds : List FileHunk
  pub is_load : IsLoadOf seconds bytes
  pub compares : Compares comparison firsts seconds
