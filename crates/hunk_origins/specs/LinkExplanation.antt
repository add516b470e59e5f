-- What is told of units that do not link, and the lines of that.
use Rattle.std.specs.Prelude.{ℕ, zero, suc, ◌-◌, List, [], ◌++◌, Option, None, Some, codes, length, option_map, take}
use Rattle.std.specs.Fmt.{decimal}
use Rattle.std.specs.List.{flat_map}
use Rattle.hunk_link.specs.declared.refusal.LinkRefusal.{LinkRefusal}
use Rattle.hunk_link.specs.declared.refusal.LinkRefusal.TheVariants as link
use Rattle.hunk_base.specs.QuotedName.{quoted}
use Rattle.hunk_base.specs.Text.{line}
use Rattle.hunk_origins.specs.DefinedNames.{first_definition}
use Rattle.hunk_tool.specs.ObjectFiles.{FileUnit}
use Rattle.hunk_origins.specs.OriginText.{origin_text}
use Rattle.hunk_origins.specs.Origins.{Origin, origin_at, origins}
use Rattle.hunk_origins.specs.Undefined.{Use, Uses, undefined_uses}

-- a hunk by its unit's index in the link and its number in the unit, and where it is from
pub record Place : Type 0 where
  pub unit : ℕ
  pub hunk : ℕ
  pub origin : Origin

-- the hunk that a refusal is about, the first one that defines its name, and the undefined names
pub record Told : Type 0 where
  pub place : Option Place
  pub first : Option Origin
  pub undefined : Uses

abbrev pub place_at : List FileUnit → (unit hunk : ℕ) → Option Place
place_at units unit hunk = option_map (λ origin. record { unit = unit; hunk = hunk; origin = origin }) (origin_at units unit hunk)

-- what is told of a refusal to link these units
abbrev pub told_of : {A : Type 0} → List FileUnit → LinkRefusal A → Told
told_of units (link.NoSuchHunk unit hunk target) = record { place = place_at units unit hunk; first = None; undefined = [] }
told_of units (link.DuplicateName unit hunk name) =
    record { place = place_at units unit hunk; first = first_definition name (origins units); undefined = [] }
told_of units (link.UndefinedName unit hunk name) =
    record { place = place_at units unit hunk; first = None; undefined = undefined_uses (origins units) }
told_of units refusal = record { place = None; first = None; undefined = [] }

-- ---- the lines, if the files have these names

abbrev pub known_place_line : (names : List (List ℕ)) → Place → List ℕ
known_place_line names place =
    line (codes "  unit " ++ decimal place.unit ++ codes " hunk " ++ decimal place.hunk ++ codes ": " ++ origin_text names place.origin)

abbrev pub place_line : (names : List (List ℕ)) → Option Place → List ℕ
place_line names None = []
place_line names (Some place) = known_place_line names place

abbrev pub first_line : (names : List (List ℕ)) → Option Origin → List ℕ
first_line names None = []
first_line names (Some origin) = line (codes "  first defined in " ++ origin_text names origin)

-- a name, the number of references to it, and the first of them
abbrev pub use_line : (names : List (List ℕ)) → List ℕ × Use → List ℕ
use_line names used =
    line (codes "  " ++ quoted used.0 ++ codes ", references: " ++ decimal used.1.count ++ codes ", first in " ++ origin_text names used.1.origin)

-- the most names that are told
abbrev pub most_told : ℕ
most_told = 100

-- how many there are besides those
abbrev pub more_line : ℕ → List ℕ
more_line zero = []
more_line (suc count) = line (codes "  and " ++ decimal (suc count) ++ codes " more")

abbrev pub uses_text : (names : List (List ℕ)) → Uses → List ℕ
uses_text names uses = flat_map (use_line names) (take most_told uses) ++ more_line (length uses - most_told)

-- all lines
abbrev pub told_text : (names : List (List ℕ)) → Told → List ℕ
told_text names told = place_line names told.place ++ (first_line names told.first ++ uses_text names told.undefined)
