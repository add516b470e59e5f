-- The text of a map: for each hunk of a load file, in order, where it is from and what it defines.
use Rattle.std.specs.Prelude.{◌≡◌, ℕ, Bool, List, ◌++◌, codes}
use Rattle.std.specs.List.{enumerate_from, flat_map, zip}
use Rattle.hunk_loadfile.specs.LoadHunk.{FileHunk}
use Rattle.hunk_text.specs.Listing.{definition_line, hunk_front}
use Rattle.hunk_base.specs.Text.{line}
use Rattle.hunk_tool.specs.Link.{DoLink}
use Rattle.hunk_tool.specs.LinkedUnits.{carried_with, linked_files}
use Rattle.hunk_tool.specs.ObjectFiles.{AreFileUnits, FileUnit, units_of}
use Rattle.hunk_origins.specs.OriginText.{origin_text}
use Rattle.hunk_origins.specs.Origins.{Origin, origins}

-- ---- the text

-- a hunk of the load file, with its number, and where it is from
abbrev pub map_line : (names : List (List ℕ)) → ℕ → FileHunk → Origin → List ℕ
map_line names number hunk origin =
    line (hunk_front number hunk.kind hunk.memory hunk.size ++ codes " " ++ origin_text names origin)

-- that line, and then one for each of its definitions
abbrev pub map_lines : (names : List (List ℕ)) → ℕ × (FileHunk × Origin) → List ℕ
map_lines names hunk = map_line names hunk.0 hunk.1.0 hunk.1.1 ++ flat_map definition_line hunk.1.1.hunk.definitions

-- the lines of these hunks, which are numbered from this number on, each beside its origin
abbrev pub map_from : (names : List (List ℕ)) → ℕ → List FileHunk → List Origin → List ℕ
map_from names number hunks from = flat_map (map_lines names) (enumerate_from number (zip hunks from))

-- the map of a load file that is linked from these units
abbrev pub map_text : (names : List (List ℕ)) → List FileHunk → List FileUnit → List ℕ
map_text names file units = map_from names 0 file (origins units)

-- ---- what linking tells

-- The files are object files whose units link, these are the units as they are linked, and this is the load file of
-- them, before it is trimmed.
pub record LinkFiles (globals strip : Bool) (linked : List FileUnit) (file : List FileHunk) (files : List (List ℕ)) : Type 0 where
  pub units : List FileUnit
  pub are : AreFileUnits units files
  pub linked_are : linked ≡ linked_files globals strip units
  pub link : DoLink globals strip files (units_of units)
  pub file_is : file ≡ carried_with globals strip (units_of units)
