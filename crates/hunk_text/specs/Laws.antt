-- Laws about the sizes of listings, and of the lines that tell a difference.
use Rattle.std.specs.Prelude.{◌≡◌, ℕ, ◌^◌, ◌<◌, List, length, Some}
use Rattle.hunk_objects.specs.ProgramUnit.{IsObjectOf, ObjectUnit}
use Rattle.hunk_loadfile.specs.Difference.{first_difference}
use Rattle.hunk_loadfile.specs.InfoDifference.{first_info_difference}
use Rattle.hunk_loadfile.specs.LoadFile.{IsLoadOf}
use Rattle.hunk_loadfile.specs.LoadHunk.{FileHunk}
use Rattle.hunk_loadfile.specs.Rules.{IsLoadFile}
use Rattle.hunk_loadfile.specs.declared.difference.Difference.{Difference}
use Rattle.hunk_loadfile.specs.declared.info_difference.InfoDifference.{InfoDifference}
use Rattle.hunk_text.specs.DifferenceText.{difference_line, info_difference_line}
use Rattle.hunk_text.specs.Listing.{load_listing, object_listing}

-- The listing of an object file has fewer than 2^64 bytes.
abbrev pub ObjectListingFits : Type 0
ObjectListingFits = (units : List ObjectUnit) (bytes : List ℕ) → IsObjectOf units bytes → length (object_listing units) < 2 ^ 64

-- Likewise for a load file.
abbrev pub LoadListingFits : Type 0
LoadListingFits = (hunks : List FileHunk) (bytes : List ℕ) → IsLoadOf hunks bytes → length (load_listing hunks) < 2 ^ 64

-- The line that tells the first difference of two load files has fewer than 2^64 bytes,
abbrev pub DifferenceFits : Type 0
DifferenceFits =
    (first second : List FileHunk) (difference : Difference) → IsLoadFile first → IsLoadFile second
    → first_difference first second ≡ Some difference → length (difference_line difference) < 2 ^ 64

-- and so has that of the first difference in what only debuggers read.
abbrev pub InfoDifferenceFits : Type 0
InfoDifferenceFits =
    (first second : List FileHunk) (difference : InfoDifference) → IsLoadFile first → IsLoadFile second
    → first_info_difference first second ≡ Some difference → length (info_difference_line first second difference) < 2 ^ 64
