-- What a hunk file is as one JSON value. The members of an object stand in the order of their keys,
-- except that those about the content of a hunk stand behind its size.
use Rattle.std.specs.Prelude.{ℕ, ◌/◌, List, [], ◌∷◌, ◌++◌, Bool, true, false, if◌then◌else◌, drop, length, map, get_or, slice_index, codes}
use Rattle.std.specs.Str.{is_utf8}
use Rattle.base64.specs.Engines.{standard}
use Rattle.base64.specs.GeneralPurpose.{encode_of}
use Rattle.serde_json.specs.Data.{Data, boolean, number, unsigned, string, array, object, Members, no_members, member}
use Rattle.serde_json.specs.View.{items_of}
use Rattle.hunk_words.specs.declared.kinds.HunkKind.{HunkKind}
use Rattle.hunk_words.specs.declared.kinds.HunkKind.TheVariants.{Code, Data as DataHunk, Bss}
use Rattle.hunk_words.specs.declared.kinds.Memory.{Memory}
use Rattle.hunk_words.specs.declared.kinds.Memory.TheVariants.{Any, Chip, Fast}
use Rattle.hunk_objects.specs.ProgramUnit.{ObjectUnit}
use Rattle.hunk_objects.specs.UnitHunk.{ObjectHunk}
use Rattle.hunk_objects.specs.declared.unit_hunk.Adds.{Adds}
use Rattle.hunk_objects.specs.declared.unit_hunk.Adds.TheVariants.{Hunk, Reference}
use Rattle.hunk_objects.specs.declared.unit_hunk.Definition.{Definition}
use Rattle.hunk_objects.specs.declared.unit_hunk.Definition.TheVariants.{At, Absolute}
use Rattle.hunk_loadfile.specs.LoadHunk.{FileHunk}
use Rattle.hunk_json.specs.declared.form.JsonForm.{JsonForm}
use Rattle.hunk_json.specs.declared.form.JsonForm.TheVariants.{Plain, WithContent, InPage}

-- ---- numbers, lists, and objects of named parts

abbrev pub natural : ℕ → Data
natural n = number (unsigned n)

-- the array of the values of these things
abbrev pub listed : {T : Type 0} → (T → Data) → List T → Data
listed value things = array (items_of (map value things))

abbrev pub members_in : List (List ℕ × Data) → Members
members_in [] = no_members
members_in (part ∷ parts) = member part.0 part.1 (members_in parts)

-- the object of these keys with these values
abbrev pub named : List (List ℕ × Data) → Data
named parts = object (members_in parts)

-- ---- what hunks of either kind of file have

abbrev pub kind_json : HunkKind → Data
kind_json Code = string (codes "code")
kind_json DataHunk = string (codes "data")
kind_json Bss = string (codes "bss")

abbrev pub memory_json : Memory → Data
memory_json Any = string (codes "any")
memory_json Chip = string (codes "chip")
memory_json Fast = string (codes "fast")

-- a text, if the bytes of the name are UTF-8; otherwise these bytes
abbrev pub name_json : List ℕ → Data
name_json name = if is_utf8 name then string name else listed natural name

-- the offset of a site, and the hunk whose base is added there
abbrev pub hunk_site_json : ℕ × ℕ → Data
hunk_site_json site = named ((codes "hunk", natural site.1) ∷ (codes "offset", natural site.0) ∷ [])

-- a name and a value
abbrev pub symbol_json : List ℕ × ℕ → Data
symbol_json symbol = named ((codes "name", name_json symbol.0) ∷ (codes "value", natural symbol.1) ∷ [])

-- a debug block, of which only the number of longwords is told
abbrev pub debug_json : List ℕ → Data
debug_json words = natural (length words)

-- the stored bytes in base64, and the offset at which they begin in the file
abbrev pub stored_members : (offset : ℕ) (content : List ℕ) → List (List ℕ × Data)
stored_members offset content = (codes "content", string (encode_of standard content)) ∷ (codes "content_offset", natural offset) ∷ []

-- in the forms that have them
abbrev pub content_members : JsonForm → (offset : ℕ) (content : List ℕ) → List (List ℕ × Data)
content_members Plain offset content = []
content_members WithContent offset content = stored_members offset content
content_members InPage offset content = stored_members offset content

-- hunks, each with the offset of its content: the next of these offsets, or 0 where there is none
abbrev pub hunks_at : {T : Type 0} → (offsets : List ℕ) → List T → List (ℕ × T)
hunks_at offsets [] = []
hunks_at offsets (hunk ∷ hunks) = (slice_index offsets 0, hunk) ∷ hunks_at (drop 1 offsets) hunks

-- the value of a hunk, with the offset of its content
abbrev pub hunk_json : {T : Type 0} → (value : ℕ → T → Data) → ℕ × T → Data
hunk_json value hunk = value hunk.0 hunk.1

-- the array of the values of hunks
abbrev pub hunks_json : {T : Type 0} → (value : ℕ → T → Data) → (offsets : List ℕ) → List T → Data
hunks_json value offsets hunks = listed (hunk_json value) (hunks_at offsets hunks)

-- ---- load files

-- `stored` is the number of longwords that the file has for the hunk
abbrev pub load_hunk_json : JsonForm → (offset : ℕ) → FileHunk → Data
load_hunk_json form offset hunk = named (
    (codes "debugs", listed debug_json hunk.debugs)
    ∷ (codes "kind", kind_json hunk.kind)
    ∷ (codes "memory", memory_json hunk.memory)
    ∷ (codes "sites", listed hunk_site_json hunk.sites.entries)
    ∷ (codes "size", natural hunk.size)
    ∷ (codes "stored", natural (length hunk.content / 4))
    ∷ content_members form offset hunk.content
    ++ (codes "symbols", listed symbol_json hunk.symbols)
    ∷ [])

-- the load file of these hunks, with the offsets of their contents
abbrev pub load_json : JsonForm → (offsets : List ℕ) → List FileHunk → Data
load_json form offsets hunks = named ((codes "hunks", hunks_json (load_hunk_json form) offsets hunks) ∷ (codes "kind", string (codes "load file")) ∷ [])

-- ---- object files

-- the offset of a site, and the name whose value is added there
abbrev pub name_site_json : ℕ → List ℕ → Data
name_site_json offset name = named ((codes "name", name_json name) ∷ (codes "offset", natural offset) ∷ [])

-- a site that adds a hunk, or a reference, by its index among those of the same hunk
abbrev pub adds_json : (references : List (List ℕ)) → (offset : ℕ) → Adds → Data
adds_json references offset (Hunk hunk) = hunk_site_json (offset, hunk)
adds_json references offset (Reference index) = name_site_json offset (get_or references index [])

abbrev pub site_json : List (List ℕ) → ℕ × Adds → Data
site_json references site = adds_json references site.0 site.1

-- an offset in the hunk that defines the name, or a number
abbrev pub stands_for_json : List ℕ → (absolute : Bool) → ℕ → Data
stands_for_json name absolute value = named ((codes "absolute", boolean absolute) ∷ (codes "name", name_json name) ∷ (codes "value", natural value) ∷ [])

abbrev pub meaning_json : List ℕ → Definition → Data
meaning_json name (At offset) = stands_for_json name false offset
meaning_json name (Absolute value) = stands_for_json name true value

-- a name and what it stands for
abbrev pub definition_json : List ℕ × Definition → Data
definition_json definition = meaning_json definition.0 definition.1

-- the sites of a hunk
abbrev pub sites_json : ObjectHunk → Data
sites_json hunk = listed (site_json hunk.references) hunk.sites.entries

abbrev pub unit_hunk_json : JsonForm → (offset : ℕ) → ObjectHunk → Data
unit_hunk_json form offset hunk = named (
    (codes "debugs", listed debug_json hunk.debugs)
    ∷ (codes "definitions", listed definition_json hunk.definitions)
    ∷ (codes "kind", kind_json hunk.kind)
    ∷ (codes "memory", memory_json hunk.memory)
    ∷ (codes "name", name_json hunk.name)
    ∷ (codes "sites", sites_json hunk)
    ∷ (codes "size", natural hunk.size)
    ∷ content_members form offset hunk.content
    ++ (codes "symbols", listed symbol_json hunk.symbols)
    ∷ [])

-- a unit, with the offsets of the contents from its first hunk on
abbrev pub unit_json : JsonForm → List ℕ × ObjectUnit → Data
unit_json form unit = named ((codes "hunks", hunks_json (unit_hunk_json form) unit.0 unit.1.hunks) ∷ (codes "name", name_json unit.1.name) ∷ [])

-- units, each with the offsets from its first hunk on
abbrev pub units_at : (offsets : List ℕ) → List ObjectUnit → List (List ℕ × ObjectUnit)
units_at offsets [] = []
units_at offsets (unit ∷ units) = (offsets, unit) ∷ units_at (drop (length unit.hunks) offsets) units

-- the object file of these units, with the offsets of the contents of their hunks
abbrev pub object_json : JsonForm → (offsets : List ℕ) → List ObjectUnit → Data
object_json form offsets units = named ((codes "kind", string (codes "object file")) ∷ (codes "units", listed (unit_json form) (units_at offsets units)) ∷ [])
