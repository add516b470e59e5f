-- The header stays as it was when its rooms are taken out.
use Rattle.std.proofs.Common.{◌≡◌}
use Rattle.amihunk_c.proofs.SizingLemmas.{rooms-placed, rooms-unplaced}
use Rattle.amihunk_c.proofs.rooms.Header.place.Goals as goal

pub returns-clause-placed : goal.returns-clause-placed
returns-clause-placed c =
    let same : c.args.self.now ≡ c.self.inside.loader = let taken = c.take_rooms-rooms.ensures in let view = c.self.view_is in cc in
    rooms-placed c.args.bases.now c.args.self.now c.self.inside.loader c.place_in.result same
    c.place_in.ensures.stands c.place_in.ensures.given c.place_in.ensures.none c.place_in.ensures.placed c.place_in.ensures.stays

pub returns-clause-refused : goal.returns-clause-refused
returns-clause-refused c =
    let same : c.args.self.now ≡ c.self.inside.loader = let taken = c.take_rooms-rooms.ensures in let view = c.self.view_is in cc in
    rooms-unplaced c.args.bases.now c.args.self.now c.self.inside.loader c.place_in.result same c.place_in.ensures.incomplete c.place_in.ensures.refused
