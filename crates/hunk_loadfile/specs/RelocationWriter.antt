-- Sites in the order in which a relocation block has them, and the bytes of the block.
use Rattle.std.specs.Prelude.{◌≡◌, ℕ, ◌-◌, ◌%◌, ◌<◌, List, [], ◌∷◌, ◌++◌, length, replicate}
use Rattle.std.specs.List.{All}
use Rattle.std.specs.List.Sorted.{IsNonDecreasingBy, IsPermutation}
use Rattle.hunk_base.specs.Name.{bytes_of}
use Rattle.hunk_loadfile.specs.declared.number_width.NumberWidth.{NumberWidth}
use Rattle.hunk_loadfile.specs.NumberWidth.{block_type, bytes_in}
use Rattle.hunk_loadfile.specs.WrittenForm.{groups_words, offsets_to}

-- The same sites, in ascending order of target. The offsets of each target are in the order that
-- they had.
pub record AreByTarget (sites pairs : List (ℕ × ℕ)) : Type 0 where
  pub same : IsPermutation sites pairs
  pub rise : IsNonDecreasingBy (λ pair. pair.1) pairs
  pub kept : (target : ℕ) → offsets_to target pairs ≡ offsets_to target sites

-- The sites of the lowest target, and those after them, in ascending order of target.
pub record IsGroup (target : ℕ) (group behind pairs : List (ℕ × ℕ)) : Type 0 where
  pub parts : pairs ≡ group ++ behind
  pub some : 0 < length group
  pub same : All (λ pair. pair.1 ≡ target) group
  pub above : All (λ pair. target < pair.1) behind
  pub rise : IsNonDecreasingBy (λ pair. pair.1) behind

-- The zeros after the groups, whose number of bytes is given. They end the block in either width: they are one
-- number, and fill up the last longword.
abbrev pub block_end : ℕ → List ℕ
block_end bytes = replicate (4 - bytes % 4) 0

-- the bytes of a relocation block, if there are sites
abbrev pub block_bytes : NumberWidth → ℕ → List (ℕ × ℕ) → List ℕ
block_bytes width count [] = []
block_bytes width count (e ∷ es) =
    bytes_of (block_type width ∷ []) ++ (bytes_in width (groups_words count (e ∷ es)) ++ block_end (length (bytes_in width (groups_words count (e ∷ es)))))
