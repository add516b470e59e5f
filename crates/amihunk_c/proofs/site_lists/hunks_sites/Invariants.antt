-- The lists so far are in the list.
use Rattle.std.proofs.Common.{◌≡◌, map, take}
use Rattle.amihunk_c.specs.Looked.{sites_listed, unit_hunk_sites}
use Rattle.amihunk_c.proofs.site_lists.hunks_sites.Given as goal

abbrev pub invariant-loop-hunk : goal.invariant-loop-hunk
invariant-loop-hunk l = sites_listed l.lists.items ≡ map unit_hunk_sites (take l.hunk-index l.hunks)
