-- The current hunk of a unit, and what it shows of the events.
use Rattle.std.specs.Prelude.{◌≡◌, ℕ, Bool, List, [], map, Result, OnOk}
use Rattle.hunk_words.specs.DebugInfo.{DebugLists}
use Rattle.hunk_words.specs.Kinds.{memory_of}
use Rattle.hunk_base.specs.Name.{bytes_of, name_of}
use Rattle.hunk_base.specs.OpenName.{Opens}
use Rattle.hunk_words.specs.PartialHunk.{HoldsSites, HunkSoFar}
use Rattle.hunk_words.specs.EventValue.{Receiver}
use Rattle.hunk_words.specs.EventValue.Receiver.{to_symbol, to_entry}
use Rattle.hunk_words.specs.Values.{Hunk, HunkTables, with_tables}
use Rattle.hunk_words.specs.declared.kinds.HunkKind.{HunkKind}
use Rattle.hunk_words.specs.declared.kinds.Memory.{Memory}
use Rattle.hunk_base.specs.declared.name.open_name.OpenName.{OpenName}
use Rattle.hunk_objects.specs.declared.open_hunk.Named.{Named}
use Rattle.hunk_objects.specs.declared.open_hunk.Named.TheVariants.{Symbol, Offset, Number, Reference}
use Rattle.hunk_objects.specs.UnitHunk.{definition_of, with_sites}
use Rattle.hunk_objects.specs.declared.unit_hunk.Adds.{Adds}
use Rattle.hunk_objects.specs.declared.unit_hunk.Definition.{Definition}

-- all that is known of a hunk that has not ended
pub record UnitHunkSoFar (A : Type 0) : Type 0 where
  pub name : OpenName A
  pub kind : HunkKind
  pub memory : Memory
  pub size : ℕ
  pub partial : HunkSoFar Adds
  pub references : List (List ℕ)
  pub definitions : List (List ℕ × Definition)
  pub debug_info : DebugLists

-- It is the hunk that the events told. Its sites lie below the limit, at the offsets seen.
pub record Shows {A : Type 0} (hunk : UnitHunkSoFar A) (limit : ℕ) (seen : List ℕ) (in_content : Bool) (told : Hunk) : Type 0 where
  pub name : Opens hunk.name told.name
  pub kind : hunk.kind ≡ told.kind
  pub memory : hunk.memory ≡ memory_of told.memory
  pub size : hunk.size ≡ told.size
  pub content : hunk.partial.content ≡ bytes_of told.content
  pub sites : hunk.partial.sites.entries ≡ with_sites [] told.tables.sites
  pub holds : HoldsSites limit seen hunk.partial
  pub words : hunk.partial.in_content ≡ in_content
  pub references : hunk.references ≡ map name_of told.tables.references
  pub definitions : hunk.definitions ≡ map (λ d. (name_of d.0, definition_of d.1)) told.tables.definitions
  pub symbols : hunk.debug_info.symbols ≡ map (λ s. (name_of s.0, s.1)) told.tables.symbols
  pub debugs : hunk.debug_info.debugs ≡ told.tables.debugs

-- It takes what more the hunk contains.
abbrev pub Takes : {A E : Type 0} → (old new : UnitHunkSoFar A) → Result (Unit {0}) E → HunkTables → Type 0
Takes old new answer more = (limit : ℕ) (seen : List ℕ) (in_content : Bool) (told : Hunk) → Shows old limit seen in_content told → OnOk answer (Shows new limit seen in_content (with_tables told more))

-- where the longwords of a name go, after these
abbrev pub receiver_of : Named → List ℕ → Receiver
receiver_of Symbol words = to_symbol words
receiver_of Offset words = to_entry 1 words
receiver_of Number words = to_entry 2 words
receiver_of Reference words = to_entry 129 words
