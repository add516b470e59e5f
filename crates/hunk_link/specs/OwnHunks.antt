-- Whether sites name hunks of their own unit.
use Rattle.std.specs.Prelude.{ℕ, ◌<◌, List}
use Rattle.std.specs.List.{All}
use Rattle.hunk_objects.specs.UnitHunk.{ObjectHunk}
use Rattle.hunk_objects.specs.declared.unit_hunk.Adds.{Adds}
use Rattle.hunk_objects.specs.declared.unit_hunk.Adds.TheVariants.{Hunk, Reference}
use Rattle.hunk_link.specs.FirstToBreak.{IsFirstToBreak}
use Rattle.hunk_link.specs.Ranks.{RankedHunk, IsAt, all_items}
use Rattle.hunk_link.specs.declared.refusal.LinkRefusal.{LinkRefusal}
use Rattle.hunk_link.specs.declared.refusal.LinkRefusal.TheVariants.{NoSuchHunk}

-- a site of a hunk
abbrev pub Site : Type 0
Site = RankedHunk × (ℕ × Adds)

-- the sites of a hunk by rising offset
abbrev pub sites_in : ObjectHunk → List (ℕ × Adds)
sites_in hunk = hunk.sites.entries

abbrev pub sites_of : List RankedHunk → List Site
sites_of hunks = all_items sites_in hunks

-- what is added is the base of one of `count` hunks, or what a name stands for
abbrev pub IsOneOf : ℕ → Adds → Type 0
IsOneOf count (Hunk target) = target < count
IsOneOf count (Reference index) = Unit {0}

abbrev pub NamesOwnHunk : Site → Type 0
NamesOwnHunk site = IsOneOf site.0.count site.1.1

-- each site that adds the base of a hunk names a hunk of its own unit
abbrev pub AllNameOwnHunks : List Site → Type 0
AllNameOwnHunks sites = All NamesOwnHunk sites

-- the first site, by its hunk and then by its offset, that names a hunk which its unit does not have
pub record IsFirstForeign (sites : List Site) (unit hunk target : ℕ) : Type 0 where
  pub ranked : RankedHunk
  pub offset : ℕ
  pub at : IsAt unit hunk ranked
  pub first : IsFirstToBreak AllNameOwnHunks sites (ranked, (offset, Hunk target))

-- the refusal for it
abbrev pub IsForeign : {A : Type 0} → List Site → LinkRefusal A → Type 0
IsForeign sites (NoSuchHunk unit hunk target) = IsFirstForeign sites unit hunk target
IsForeign sites _ = ⊥
