-- The current unit of an object file, and what it shows of the events.
use Rattle.std.specs.Prelude.{◌≡◌, List, map}
use Rattle.hunk_base.specs.OpenName.{Opens}
use Rattle.hunk_words.specs.Values.{Part}
use Rattle.hunk_base.specs.declared.name.open_name.OpenName.{OpenName}
use Rattle.hunk_objects.specs.UnitHunk.{ObjectHunk, object_hunk}

-- its name so far, and its hunks that have ended
pub record UnitSoFar (A : Type 0) : Type 0 where
  pub name : OpenName A
  pub hunks : List ObjectHunk

-- It is the unit that the events told.
pub record ShowsUnit {A : Type 0} (unit : UnitSoFar A) (told : Part) : Type 0 where
  pub name : Opens unit.name told.name
  pub hunks : unit.hunks ≡ map object_hunk told.hunks
