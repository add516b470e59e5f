-- What C is told of what is in a file, in numbers.
use Rattle.std.specs.Prelude.{◌≡◌, ℕ, List, length}
use denote.RawPtr.{InBlock}
use Rattle.hunk_words.specs.declared.kinds.HunkKind.{HunkKind}
use Rattle.hunk_words.specs.declared.kinds.HunkKind.TheVariants.{Code, Data, Bss}
use Rattle.hunk_objects.specs.declared.unit_hunk.Definition.{Definition}
use Rattle.hunk_objects.specs.declared.unit_hunk.Definition.TheVariants.{At, Absolute}
use Rattle.amihunk_c.specs.Codes.{memory_code}
use Rattle.amihunk_c.specs.Facts.{HunkFacts}
use Rattle.amihunk_c.specs.Spans.{IsSpanOf}
use Rattle.amihunk_c.specs.declared.told.ContentsTold.{ContentsTold}
use Rattle.amihunk_c.specs.declared.told.DebugTold.{DebugTold}
use Rattle.amihunk_c.specs.declared.told.DefinitionTold.{DefinitionTold}
use Rattle.amihunk_c.specs.declared.told.HunkTold.{HunkTold}
use Rattle.amihunk_c.specs.declared.told.SymbolTold.{SymbolTold}
use Rattle.amihunk_c.specs.declared.told.UnitTold.{UnitTold}

-- a kind of hunk, as C knows it
abbrev pub kind_code : HunkKind → ℕ
kind_code Code = 0
kind_code Data = 1
kind_code Bss = 2

-- the number of units, and the kind of file
abbrev pub IsContentsTold : ℕ × ℕ → ContentsTold → Type 0
IsContentsTold contents told = (told.units ≡ contents.0) × (told.kind ≡ contents.1)

-- the name of a unit, and the number of its hunks
abbrev pub IsUnitTold : List ℕ × ℕ → UnitTold → Type 0
IsUnitTold unit told = IsSpanOf unit.0 told.name × (told.hunks ≡ unit.1)

pub record IsHunkTold (hunk : HunkFacts) (told : HunkTold) : Type 0 where
  pub name : IsSpanOf hunk.name told.name
  pub stored : IsSpanOf hunk.stored told.stored
  pub sites : told.sites ≡ length hunk.sites
  pub symbols : told.symbols ≡ length hunk.symbols
  pub definitions : told.definitions ≡ length hunk.definitions
  pub references : told.references ≡ length hunk.references
  pub debugs : told.debugs ≡ length hunk.debugs
  pub size : told.size ≡ hunk.size
  pub kind : told.kind ≡ kind_code hunk.kind
  pub memory : told.memory ≡ memory_code hunk.memory

-- the name and the value of a symbol
abbrev pub IsSymbolTold : List ℕ × ℕ → SymbolTold → Type 0
IsSymbolTold symbol told = IsSpanOf symbol.0 told.name × (told.value ≡ symbol.1)

abbrev pub IsMeaningTold : Definition → DefinitionTold → Type 0
IsMeaningTold (At offset) told = (told.value ≡ offset) × (told.absolute ≡ 0)
IsMeaningTold (Absolute number) told = (told.value ≡ number) × (told.absolute ≡ 1)

abbrev pub IsDefinitionTold : List ℕ × Definition → DefinitionTold → Type 0
IsDefinitionTold definition told = IsSpanOf definition.0 told.name × IsMeaningTold definition.1 told

pub record IsDebugTold (longwords : List ℕ) (told : DebugTold) : Type 0 where
  pub not_null : InBlock told.longwords
  pub size : told.size ≡ length longwords
