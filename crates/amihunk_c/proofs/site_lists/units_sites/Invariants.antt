-- The lists so far are in the list.
use Rattle.std.proofs.Common.{◌≡◌, map, take}
use Rattle.amihunk_c.specs.Looked.{listed, unit_sites}
use Rattle.amihunk_c.proofs.site_lists.units_sites.Given as goal

abbrev pub invariant-loop-unit : goal.invariant-loop-unit
invariant-loop-unit l = listed l.lists.items ≡ map unit_sites (take l.unit-index l.units)
