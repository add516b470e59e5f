-- The first line and those of the hunks so far were put.
use Rattle.std.proofs.Common.{◌++◌, length, take}
use Rattle.std.specs.List.{enumerate_from, flat_map}
use Rattle.hunk_base.specs.Text.{Puts}
use Rattle.hunk_loader.specs.Sizes.{sizes_of}
use Rattle.hunk_addresses.specs.PlacesText.{hunk_line, numbers_line}
use Rattle.hunk_addresses.proofs.places_text.write_places.Given as goal

abbrev pub invariant-loop-number : goal.invariant-loop-number
invariant-loop-number g l = Puts g.W.Sink.taken g.W.Sink.failed l.fn.text l.text (numbers_line (length (sizes_of l.hunks)) (length l.bases) ++ flat_map (hunk_line l.bases) (take l.number (enumerate_from 0 (sizes_of l.hunks))))
