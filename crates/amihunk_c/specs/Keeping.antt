-- What C is told of what a linker keeps.
use Rattle.std.specs.Prelude.{◌≡◌, ◌⊎◌, ◌==◌, ℕ, List, [], ◌∷◌, Option, None, Some, Result, Ok, Err, Vec, if◌then◌else◌, slice_get}
use Rattle.std.specs.Global.{Global}
use Rattle.hunk_loadfile.specs.LoadHunk.{FileHunk}
use Rattle.hunk_origins.specs.Map.{map_text}
use Rattle.hunk_tool.specs.ObjectFiles.{FileUnit}
use Rattle.hunk_origins.specs.UndefinedName.{UndefinedName}
use Rattle.amihunk_c.specs.Looking.{and_then, or_out_of_range}
use Rattle.amihunk_c.specs.Spans.{IsSpanOf}
use Rattle.amihunk_c.specs.Texts.{TellsNothing, TellsText}
use Rattle.amihunk_c.specs.declared.codes.Status.{Status}
use Rattle.amihunk_c.specs.declared.codes.Status.TheVariants.{WrongState}
use Rattle.amihunk_c.specs.declared.session.Session.{Session}
use Rattle.amihunk_c.specs.declared.session.Session.TheVariants.{Linked, Stopped}
use Rattle.amihunk_c.specs.declared.told.UndefinedTold.{UndefinedTold}

-- ---- the names that no hunk defines

-- those that are kept
abbrev pub kept_names : Option (Vec UndefinedName Global) → Result (List UndefinedName) Status
kept_names None = Err WrongState
kept_names (Some names) = Ok names.items

abbrev pub undefined_names_in : Session → Result (List UndefinedName) Status
undefined_names_in (Stopped refused) = kept_names refused.undefined
undefined_names_in session = Err WrongState

-- one of them
abbrev pub undefined_at : Session → ℕ → Result UndefinedName Status
undefined_at session index = and_then (undefined_names_in session) (λ names. or_out_of_range (slice_get names index))

abbrev pub undefined_in : Option Session → ℕ → Result UndefinedName Status
undefined_in None index = Err WrongState
undefined_in (Some session) index = undefined_at session index

pub record IsUndefinedTold (name : UndefinedName) (told : UndefinedTold) : Type 0 where
  pub name_is : IsSpanOf name.name told.name
  pub input : told.input ≡ name.file
  pub unit : told.unit ≡ name.unit
  pub hunk : told.hunk ≡ name.hunk
  pub references : told.references ≡ name.references

-- ---- the map

-- a name that begins with this byte, if it ends
abbrev pub with_front : ℕ → List (List ℕ) → List (List ℕ)
with_front byte [] = []
with_front byte (name ∷ names) = (byte ∷ name) ∷ names

-- the names in a list, each of them ended by a zero byte
abbrev pub names_in : List ℕ → List (List ℕ)
names_in [] = []
names_in (byte ∷ bytes) = if byte == 0 then [] ∷ names_in bytes else with_front byte (names_in bytes)

-- The map of what is kept is told, in which the object files have these names; nothing is told if an
-- allocation failed, or nothing is kept.
abbrev pub TellsKept : List (List ℕ) → Option (List FileUnit × List FileHunk) → (old new : List ℕ) → ℕ → Type 0
TellsKept names None old new count = TellsNothing old new count
TellsKept names (Some kept) old new count = TellsText (map_text names kept.1 kept.0) old new count ⊎ TellsNothing old new count

abbrev pub TellsMap : (list : List ℕ) → Session → (old new : List ℕ) → ℕ → Type 0
TellsMap list (Linked linked) old new count = TellsKept (names_in list) linked.kept old new count
TellsMap list session old new count = TellsNothing old new count

abbrev pub TellsMapOf : (list : List ℕ) → Option Session → (old new : List ℕ) → ℕ → Type 0
TellsMapOf list None old new count = TellsNothing old new count
TellsMapOf list (Some session) old new count = TellsMap list session old new count
