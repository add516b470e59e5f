-- The text that tells where a hunk is from.
use Rattle.std.specs.Prelude.{ℕ, List, [], ◌++◌, codes, slice_index_or}
use Rattle.std.specs.Fmt.{decimal}
use Rattle.hunk_base.specs.QuotedName.{quoted}
use Rattle.hunk_origins.specs.Origins.{Origin}
use Rattle.hunk_tool.specs.ShownName.{shown_name}

-- the file, the unit and the hunk, if the files have these names
abbrev pub origin_text : (names : List (List ℕ)) → Origin → List ℕ
origin_text names origin =
    shown_name (slice_index_or names origin.unit.0.file [])
    ++ codes " unit " ++ decimal origin.unit.0.number ++ codes " " ++ quoted origin.unit.1.name
    ++ codes " hunk " ++ decimal origin.number ++ codes " " ++ quoted origin.hunk.name
