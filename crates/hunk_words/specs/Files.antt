-- What a file is, and how a file may begin. A file is the spelling of a tree, each number passes,
-- and its sites obey the rules. It has at most 2^28 longwords (own).
use Rattle.std.specs.Prelude.{◌≡◌, ℕ, ◌^◌, ◌≤◌, List, [], ◌++◌, length}
use Rattle.hunk_words.specs.Kinds.{Field}
use Rattle.hunk_words.specs.FaultTable.{AllPass}
use Rattle.hunk_words.specs.Trees.{ObjectTree, LoadTree}
use Rattle.hunk_words.specs.Spelling.{object_spelling, load_spelling}
use Rattle.hunk_words.specs.FieldLongwords.{longwords_of, fields_in}
use Rattle.hunk_words.specs.SiteRules.{Obeys}
use Rattle.hunk_words.specs.declared.event.FileKind.{FileKind}
use Rattle.hunk_words.specs.declared.event.FileKind.TheVariants.{Object, Load}

abbrev pub Tree : FileKind → Type 0
Tree Object = ObjectTree
Tree Load = LoadTree

abbrev pub spelling : (kind : FileKind) → Tree kind → List Field
spelling Object t = object_spelling t
spelling Load t = load_spelling t

-- Each of its numbers passes. This says nothing about its sites.
abbrev pub Fits : (kind : FileKind) → Tree kind → Type 0
Fits kind t = AllPass (spelling kind t)

abbrev pub longwords_spelled : (kind : FileKind) → Tree kind → List ℕ
longwords_spelled kind t = longwords_of (spelling kind t)

-- the most longwords that a file may have
abbrev pub most_longwords : ℕ
most_longwords = 2 ^ 28

-- The longwords are the file of this tree.
pub record IsFileOf (kind : FileKind) (tree : Tree kind) (ws : List ℕ) : Type 0 where
  pub fits : Fits kind tree
  pub spelled : longwords_spelled kind tree ≡ ws
  pub sites : Obeys [] (spelling kind tree)
  pub short_enough : length ws ≤ most_longwords

pub record IsFile (kind : FileKind) (ws : List ℕ) : Type 0 where
  pub tree : Tree kind
  pub is_file : IsFileOf kind tree ws

-- A valid prefix: numbers that pass begin with it, and the sites at its own places obey the rules.
-- What follows it may be of any length, and the sites in what follows may break the rules, so a
-- prefix is never blamed for sites after it.
pub record IsValidPrefix (kind : FileKind) (ws : List ℕ) : Type 0 where
  pub tree : Tree kind
  pub fits : Fits kind tree
  pub more : List ℕ
  pub begins : longwords_spelled kind tree ≡ ws ++ more
  pub sites : Obeys [] (fields_in (length ws) (spelling kind tree))
  pub short_enough : length ws ≤ most_longwords
