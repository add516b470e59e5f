-- Where in a file its longwords end: in which unit, hunk and block.
use Rattle.std.specs.Prelude.{◌≡◌, ℕ, suc, Bool, true, false, List, [], ◌∷◌, if◌then◌else◌, Option, Some, None, reverse}
use Rattle.hunk_words.specs.Kinds.{low, type_of}
use Rattle.hunk_words.specs.Due.{dues_read}
use Rattle.hunk_words.specs.declared.due.Due.{Due}
use Rattle.hunk_words.specs.declared.due.Due.TheVariants.{ObjectStart, LoadStart, UnitType, HunkType, ContentType, BlockType as block_is_due}
use Rattle.hunk_words.specs.declared.event.FileKind.{FileKind}
use Rattle.hunk_words.specs.declared.kinds.BlockType.{BlockType}
use Rattle.hunk_words.specs.declared.kinds.BlockType.TheVariants.{Unit as unit, End as end}
use Rattle.hunk_files.specs.declared.path.Path.{Path}

-- the type of a block is due
abbrev pub is_type : Due → Bool
is_type ObjectStart = true
is_type LoadStart = true
is_type UnitType = true
is_type HunkType = true
is_type ContentType = true
is_type block_is_due = true
is_type _ = false

-- the types of the blocks that longwords begin, each with what was due there
abbrev pub types_of : List (Due × ℕ) → List BlockType
types_of [] = []
types_of (d ∷ ds) = if is_type d.0 then type_of (low d.1) ∷ types_of ds else types_of ds

-- the same of the longwords of a file, the latest first
abbrev pub blocks_begun : FileKind → List ℕ → List BlockType
blocks_begun kind ws = reverse (types_of (dues_read kind ws))

-- how many units these blocks begin
abbrev pub units_begun : List BlockType → ℕ
units_begun [] = 0
units_begun (unit ∷ types) = suc (units_begun types)
units_begun (_ ∷ types) = units_begun types

-- how many hunks have ended since the last unit began, or since the file did
abbrev pub hunks_ended : List BlockType → ℕ
hunks_ended [] = 0
hunks_ended (unit ∷ types) = 0
hunks_ended (end ∷ types) = suc (hunks_ended types)
hunks_ended (_ ∷ types) = hunks_ended types

-- the last block
abbrev pub last_block : List BlockType → Option BlockType
last_block [] = None
last_block (type ∷ types) = Some type

-- The path is that of these blocks, the latest first.
pub record IsPathOf (path : Path) (types : List BlockType) : Type 0 where
  pub units : path.units ≡ units_begun types
  pub hunks : path.hunks ≡ hunks_ended types
  pub block : path.block ≡ last_block types
