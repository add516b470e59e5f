-- Program units, as contracts see them: records of their name and their hunks; and which longwords
-- are the object file of which units.
use Rattle.std.specs.Prelude.{◌≡◌, ℕ, List, length, map}
use Rattle.hunk_words.specs.Files.{IsFileOf}
use Rattle.hunk_base.specs.Longwords.{longwords, IsWhole}
use Rattle.hunk_base.specs.Name.{name_of}
use Rattle.hunk_words.specs.Trees.{ObjectTree}
use Rattle.hunk_words.specs.Values.{Part, object_value}
use Rattle.hunk_words.specs.declared.event.FileKind.TheVariants.{Object}
use Rattle.hunk_objects.specs.UnitHunk.{ObjectHunk, object_hunk}

pub record ObjectUnit : Type 0 where
  pub name : List ℕ
  pub hunks : List ObjectHunk

abbrev pub hunk_count : ObjectUnit → ℕ
hunk_count unit = length unit.hunks

-- ---- of the units of a file

abbrev pub object_unit : Part → ObjectUnit
object_unit part = record { name = name_of part.name; hunks = map object_hunk part.hunks }

abbrev pub object_units : List Part → List ObjectUnit
object_units parts = map object_unit parts

-- The longwords are the object file of these units.
pub record IsObject (units : List ObjectUnit) (ws : List ℕ) : Type 0 where
  pub tree : ObjectTree
  pub is_file : IsFileOf Object tree ws
  pub value : object_units (object_value tree) ≡ units

-- The bytes are whole longwords, and these are the object file of these units.
pub record IsObjectOf (units : List ObjectUnit) (bytes : List ℕ) : Type 0 where
  pub whole : IsWhole bytes
  pub is_object : IsObject units (longwords bytes)
