-- The text of a JSON value in a document of some form.
use Rattle.std.specs.Prelude.{ℕ, List, ◌++◌, codes}
use Rattle.std.specs.List.{flat_map}
use Rattle.json.specs.Print.{quoted}
use Rattle.serde_json.specs.Data.{Data}
use Rattle.serde_json.specs.Written.{compact_text}
use Rattle.hunk_json.specs.Escapes.{with_escapes}
use Rattle.hunk_json.specs.declared.form.JsonForm.{JsonForm}

-- its text without spaces, with further escapes
abbrev pub document : JsonForm → Data → List ℕ
document form value = with_escapes form (compact_text value)

-- a member of an object behind another one: a comma, its key, and its value
abbrev pub further_member : JsonForm → List ℕ × Data → List ℕ
further_member form part = codes "," ++ quoted part.0 ++ codes ":" ++ document form part.1

abbrev pub further_members : JsonForm → List (List ℕ × Data) → List ℕ
further_members form parts = flat_map (further_member form) parts
