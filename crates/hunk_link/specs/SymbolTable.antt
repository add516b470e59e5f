-- The symbol table: what each name stands for that the hunks define.
use Rattle.std.specs.Prelude.{◌≢◌, ℕ, List, map, Option, nat_eq}
use Rattle.std.specs.Cmp.Lexicographic.{pointwise}
use Rattle.std.specs.List.{AllPairs}
use Rattle.std.specs.Map.{lookup}
use Rattle.hunk_objects.specs.UnitHunk.{ObjectHunk}
use Rattle.hunk_objects.specs.declared.unit_hunk.Definition.{Definition as UnitDefinition}
use Rattle.hunk_link.specs.FirstToBreak.{IsFirstToBreak}
use Rattle.hunk_link.specs.Ranks.{RankedHunk, IsAt, all_items, rank_of}
use Rattle.hunk_link.specs.declared.refusal.LinkRefusal.{LinkRefusal}
use Rattle.hunk_link.specs.declared.refusal.LinkRefusal.TheVariants.{DuplicateName, OutOfMemory}
use Rattle.hunk_link.specs.declared.symbol_table.Defined.{Defined}

-- a definition of a hunk
abbrev pub Definition : Type 0
Definition = RankedHunk × (List ℕ × UnitDefinition)

-- the definitions of a hunk in file order
abbrev pub definitions_in : ObjectHunk → List (List ℕ × UnitDefinition)
definitions_in hunk = hunk.definitions

abbrev pub definitions_of : List RankedHunk → List Definition
definitions_of hunks = all_items definitions_in hunks

-- ---- the table

-- names, and what each stands for
abbrev pub Table : Type 0
Table = List (List ℕ × Defined)

-- the name of a definition, and the rank of its hunk with what it says
abbrev pub entry : Definition → List ℕ × Defined
entry d = (d.1.0, record { rank = rank_of d.0; definition = d.1.1 })

abbrev pub table_of : List RankedHunk → Table
table_of hunks = map entry (definitions_of hunks)

-- what a name stands for: its first definition
abbrev pub look_up : Table → List ℕ → Option Defined
look_up table name = lookup (pointwise nat_eq name) table

-- ---- names that are defined twice

abbrev pub HaveTwoNames : (one other : Definition) → Type 0
HaveTwoNames one other = one.1.0 ≢ other.1.0

-- no name is defined twice
abbrev pub DefinedOnce : List Definition → Type 0
DefinedOnce definitions = AllPairs HaveTwoNames definitions

-- the first definition of a name that was defined before
pub record IsFirstDuplicate (definitions : List Definition) (unit hunk : ℕ) (name : List ℕ) : Type 0 where
  pub ranked : RankedHunk
  pub definition : UnitDefinition
  pub at : IsAt unit hunk ranked
  pub first : IsFirstToBreak DefinedOnce definitions (ranked, (name, definition))

-- the refusal for it, or that memory ran out
abbrev pub IsDuplicate : {A : Type 0} → List Definition → LinkRefusal A → Type 0
IsDuplicate definitions (DuplicateName unit hunk name) = IsFirstDuplicate definitions unit hunk name
IsDuplicate definitions OutOfMemory = Unit {0}
IsDuplicate definitions _ = ⊥
