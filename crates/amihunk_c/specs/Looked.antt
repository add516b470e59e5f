-- What is in a file that was read: its units, and the hunks of each.
use Rattle.std.specs.Prelude.{ℕ, zero, suc, List, [], ◌∷◌, length, map, Option, None, Some, Vec, option_map, slice_get}
use Rattle.hunk_files.specs.FileValue.{FileValue}
use Rattle.hunk_files.specs.FileValue.FileValue.{object_file, load_file}
use Rattle.hunk_objects.specs.ProgramUnit.{ObjectUnit}
use Rattle.hunk_objects.specs.UnitHunk.{ObjectHunk}
use Rattle.hunk_loadfile.specs.LoadHunk.{FileHunk}
use Rattle.amihunk_c.specs.Facts.{HunkFacts, load_hunk, load_site, unit_hunk, unit_site}
use Rattle.amihunk_c.specs.declared.told.SiteTold.{SiteTold}

-- the number of units, and of the kind of file: 0 for an object file, 1 for a load file, whose hunks
-- count as those of one unit
abbrev pub contents_of : FileValue → ℕ × ℕ
contents_of (object_file units) = (length units, 0)
contents_of (load_file hunks) = (1, 1)

-- ---- units: the name, and the number of hunks

abbrev pub only : {T : Type 0} → T → ℕ → Option T
only thing zero = Some thing
only thing (suc number) = None

abbrev pub unit_at : FileValue → ℕ → Option (List ℕ × ℕ)
unit_at (object_file units) unit = option_map (λ found. (found.name, length found.hunks)) (slice_get units unit)
unit_at (load_file hunks) unit = only ([], length hunks) unit

-- ---- hunks

abbrev pub hunk_of_unit : Option ObjectUnit → ℕ → Option HunkFacts
hunk_of_unit None hunk = None
hunk_of_unit (Some unit) hunk = option_map unit_hunk (slice_get unit.hunks hunk)

abbrev pub hunk_of_load : Option (List FileHunk) → ℕ → Option HunkFacts
hunk_of_load None hunk = None
hunk_of_load (Some hunks) hunk = option_map load_hunk (slice_get hunks hunk)

abbrev pub hunk_at : FileValue → ℕ → ℕ → Option HunkFacts
hunk_at (object_file units) unit hunk = hunk_of_unit (slice_get units unit) hunk
hunk_at (load_file hunks) unit hunk = hunk_of_load (only hunks unit) hunk

-- the hunks, if it is a load file
abbrev pub load_of : FileValue → Option (List FileHunk)
load_of (object_file units) = None
load_of (load_file hunks) = Some hunks

-- ---- the sites of each hunk of each unit

abbrev pub unit_hunk_sites : ObjectHunk → List SiteTold
unit_hunk_sites hunk = map unit_site hunk.sites.entries

abbrev pub load_hunk_sites : FileHunk → List SiteTold
load_hunk_sites hunk = map load_site hunk.sites.entries

abbrev pub unit_sites : ObjectUnit → List (List SiteTold)
unit_sites unit = map unit_hunk_sites unit.hunks

abbrev pub sites_of : FileValue → List (List (List SiteTold))
sites_of (object_file units) = map unit_sites units
sites_of (load_file hunks) = map load_hunk_sites hunks ∷ []

-- vectors as lists
abbrev pub sites_listed : {A : Type 0} → List (Vec SiteTold A) → List (List SiteTold)
sites_listed lists = map (λ list. list.items) lists

abbrev pub listed : {A : Type 0} → List (Vec (Vec SiteTold A) A) → List (List (List SiteTold))
listed lists = map (λ list. sites_listed list.items) lists

-- the list with these numbers, or none
abbrev pub or_none : {T : Type 0} → Option (List T) → List T
or_none None = []
or_none (Some list) = list

abbrev pub list_at : List (List (List SiteTold)) → ℕ → ℕ → List SiteTold
list_at lists unit hunk = or_none (slice_get (or_none (slice_get lists unit)) hunk)
