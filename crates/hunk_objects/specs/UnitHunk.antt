-- The hunks of program units, as contracts see them: records of what their readers return.
use Rattle.std.specs.Prelude.{◌≡◌, ℕ, ◌<◌, ◌≤◌, List, [], ◌∷◌, length, map}
use Rattle.std.specs.BTreeMap.{insert_entry}
use Rattle.std.specs.List.{All}
use Rattle.std.specs.Map.{values_of}
use Rattle.std.specs.Ordering.{nat_cmp}
use Rattle.hunk_words.specs.Kinds.{memory_of}
use Rattle.hunk_base.specs.Name.{bytes_of, most_name, name_of}
use Rattle.hunk_words.specs.SiteContext.{content_limit}
use Rattle.hunk_base.specs.Sites.{AreApart, SiteMap}
use Rattle.hunk_words.specs.Values.{Adds as FileAdds, Definition as FileDefinition, Hunk}
use Rattle.hunk_words.specs.Values.Adds.{to_hunk, to_reference}
use Rattle.hunk_words.specs.Values.Definition.{offset_at, absolute_at}
use Rattle.hunk_words.specs.declared.event.FileKind.TheVariants.{Object}
use Rattle.hunk_words.specs.declared.kinds.HunkKind.{HunkKind}
use Rattle.hunk_words.specs.declared.kinds.Memory.{Memory}
use Rattle.hunk_objects.specs.declared.unit_hunk.Adds.{Adds}
use Rattle.hunk_objects.specs.declared.unit_hunk.Adds.TheVariants as adds
use Rattle.hunk_objects.specs.declared.unit_hunk.Definition.{Definition}
use Rattle.hunk_objects.specs.declared.unit_hunk.Definition.TheVariants.{At, Absolute}

-- A hunk of a program unit. Its size is in longwords, and its content in bytes. A definition is a
-- name and what it stands for, a symbol a name and a value, and a debug block its longwords.
pub record ObjectHunk : Type 0 where
  pub name : List ℕ
  pub kind : HunkKind
  pub memory : Memory
  pub size : ℕ
  pub content : List ℕ
  pub sites : SiteMap Adds
  pub references : List (List ℕ)
  pub definitions : List (List ℕ × Definition)
  pub symbols : List (List ℕ × ℕ)
  pub debugs : List (List ℕ)

-- ---- what its type says

-- the bytes that a unit has for a hunk: those of its size in longwords, none for a BSS
abbrev pub content_bytes : HunkKind → ℕ → ℕ
content_bytes kind size = content_limit Object 0 kind size

-- a hunk, or one of `count` references
abbrev pub IsAmong : ℕ → Adds → Type 0
IsAmong count (adds.Hunk h) = Unit {0}
IsAmong count (adds.Reference i) = i < count

-- Its content is whole, its sites lie inside it and are disjoint, each reference of a site is one of
-- its references, and the names of definitions and symbols are no longer than a file can have them.
pub record IsUnitHunk (hunk : ObjectHunk) : Type 0 where
  pub whole : length hunk.content ≡ content_bytes hunk.kind hunk.size
  pub limit : hunk.sites.limit ≡ length hunk.content
  pub apart : AreApart hunk.sites
  pub adds : All (IsAmong (length hunk.references)) (values_of hunk.sites.entries)
  pub defined : All (λ definition. length definition.0 ≤ most_name) hunk.definitions
  pub names : All (λ symbol. length symbol.0 ≤ most_name) hunk.symbols

-- ---- of the hunk of a file, in which names and content are longwords

abbrev pub adds_of : FileAdds → Adds
adds_of (to_hunk h) = adds.Hunk h
adds_of (to_reference i) = adds.Reference i

abbrev pub definition_of : FileDefinition → Definition
definition_of (offset_at o) = At o
definition_of (absolute_at v) = Absolute v

-- sites in file order, as a map
abbrev pub with_sites : List (ℕ × Adds) → List (ℕ × FileAdds) → List (ℕ × Adds)
with_sites sites [] = sites
with_sites sites (s ∷ ss) = with_sites (insert_entry nat_cmp sites s.0 (adds_of s.1)) ss

abbrev pub object_hunk : Hunk → ObjectHunk
object_hunk hunk = record {
  name = name_of hunk.name;
  kind = hunk.kind;
  memory = memory_of hunk.memory;
  size = hunk.size;
  content = bytes_of hunk.content;
  sites = record { limit = content_bytes hunk.kind hunk.size; entries = with_sites [] hunk.tables.sites };
  references = map name_of hunk.tables.references;
  definitions = map (λ d. (name_of d.0, definition_of d.1)) hunk.tables.definitions;
  symbols = map (λ s. (name_of s.0, s.1)) hunk.tables.symbols;
  debugs = hunk.tables.debugs;
}
