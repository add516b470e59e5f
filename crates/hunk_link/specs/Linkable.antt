-- Which program units link, and the first reason why units do not.
use Rattle.std.specs.Prelude.{◌≡◌, ◌<◌, Bool, List, length}
use Rattle.hunk_loadfile.specs.Rules.{most_hunks}
use Rattle.hunk_objects.specs.ProgramUnit.{ObjectUnit}
use Rattle.hunk_link.specs.Limits.{IsHunkCount, IsSmall}
use Rattle.hunk_link.specs.OwnHunks.{AllNameOwnHunks, IsFirstForeign, sites_of}
use Rattle.hunk_link.specs.Ranks.{RankedHunk, hunks_of}
use Rattle.hunk_link.specs.References.{AllDefined, IsFirstUndefined, references_of}
use Rattle.hunk_link.specs.SymbolTable.{DefinedOnce, IsFirstDuplicate, definitions_of, table_of}
use Rattle.hunk_link.specs.declared.refusal.LinkRefusal.{LinkRefusal}
use Rattle.hunk_link.specs.declared.refusal.LinkRefusal.TheVariants.{NoHunks, TooManyHunks, TooLarge, NoSuchHunk, DuplicateName, UndefinedName, OutOfMemory}

pub record AreLinkable (hunks : List RankedHunk) (strip : Bool) : Type 0 where
  pub counted : IsHunkCount hunks
  pub small : IsSmall strip hunks
  pub own_hunks : AllNameOwnHunks (sites_of hunks)
  pub once : DefinedOnce (definitions_of hunks)
  pub defined : AllDefined (table_of hunks) (references_of hunks)

-- The clauses before it hold, in the order of `AreLinkable`, and this is what breaks the next one.
-- Memory may run out once the hunks are known to be neither too many nor too large.
abbrev pub IsFirstReason : {A : Type 0} → List RankedHunk → Bool → LinkRefusal A → Type 0
IsFirstReason hunks strip NoHunks = length hunks ≡ 0
IsFirstReason hunks strip TooManyHunks = most_hunks < length hunks
IsFirstReason hunks strip TooLarge = IsHunkCount hunks × (¬ IsSmall strip hunks)
IsFirstReason hunks strip (NoSuchHunk unit hunk target) =
    IsHunkCount hunks × IsSmall strip hunks × IsFirstForeign (sites_of hunks) unit hunk target
IsFirstReason hunks strip (DuplicateName unit hunk name) =
    IsHunkCount hunks × IsSmall strip hunks × AllNameOwnHunks (sites_of hunks)
    × IsFirstDuplicate (definitions_of hunks) unit hunk name
IsFirstReason hunks strip (UndefinedName unit hunk name) =
    IsHunkCount hunks × IsSmall strip hunks × AllNameOwnHunks (sites_of hunks) × DefinedOnce (definitions_of hunks)
    × IsFirstUndefined (table_of hunks) (references_of hunks) unit hunk name
IsFirstReason hunks strip OutOfMemory = IsHunkCount hunks × IsSmall strip hunks

-- ---- of units

abbrev pub Linkable : List ObjectUnit → Bool → Type 0
Linkable units strip = AreLinkable (hunks_of units) strip

-- the first reason why they do not link
abbrev pub IsLinkRefusal : {A : Type 0} → List ObjectUnit → Bool → LinkRefusal A → Type 0
IsLinkRefusal units strip refusal = IsFirstReason (hunks_of units) strip refusal
