-- Whether the names that hunks refer to are defined.
use Rattle.std.specs.Prelude.{ℕ, List, IsSome}
use Rattle.std.specs.List.{All}
use Rattle.hunk_objects.specs.UnitHunk.{ObjectHunk}
use Rattle.hunk_link.specs.FirstToBreak.{IsFirstToBreak}
use Rattle.hunk_link.specs.Ranks.{RankedHunk, IsAt, all_items}
use Rattle.hunk_link.specs.SymbolTable.{Table, look_up}
use Rattle.hunk_link.specs.declared.refusal.LinkRefusal.{LinkRefusal}
use Rattle.hunk_link.specs.declared.refusal.LinkRefusal.TheVariants.{UndefinedName, OutOfMemory}

-- a name that a hunk refers to
abbrev pub Reference : Type 0
Reference = RankedHunk × List ℕ

-- the references of a hunk in file order
abbrev pub references_in : ObjectHunk → List (List ℕ)
references_in hunk = hunk.references

abbrev pub references_of : List RankedHunk → List Reference
references_of hunks = all_items references_in hunks

abbrev pub IsDefined : Table → Reference → Type 0
IsDefined table reference = IsSome (look_up table reference.1)

-- each name that is referred to is defined
abbrev pub AllDefined : Table → List Reference → Type 0
AllDefined table references = All (IsDefined table) references

-- the first reference to a name that is not defined
pub record IsFirstUndefined (table : Table) (references : List Reference) (unit hunk : ℕ) (name : List ℕ) : Type 0 where
  pub ranked : RankedHunk
  pub at : IsAt unit hunk ranked
  pub first : IsFirstToBreak (AllDefined table) references (ranked, name)

-- the refusal for it, or that memory ran out
abbrev pub IsUndefined : {A : Type 0} → Table → List Reference → LinkRefusal A → Type 0
IsUndefined table references (UndefinedName unit hunk name) = IsFirstUndefined table references unit hunk name
IsUndefined table references OutOfMemory = Unit {0}
IsUndefined table references _ = ⊥
