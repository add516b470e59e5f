-- The byte of a hunk that was found.
use Rattle.std.proofs.Common.{◌≡◌, ℕ, ◌<◌, List, Vec, Global, length, get_or, ap, ◌∙◌, refl, option_map}
use Rattle.std.proofs.lemmas.Option.{slice_get-map, slice_get_read}
use Rattle.hunk_loader.specs.Image.{hunks_of}
use Rattle.amihunk_c.specs.Points.{IsAt, IsIn}

pub IsAt-found : (hunks : List (ℕ × Vec ℕ Global)) (number address offset : ℕ) (hunk : ℕ × Vec ℕ Global) → number < length hunks → hunk ≡ get_or hunks number hunk
    → IsIn hunk.0 hunk.1.items address offset → IsAt (hunks_of hunks) address (record { hunk = number; offset = offset })
IsAt-found hunks number address offset hunk within is at =
    record {
      hunk = (hunk.0, hunk.1.items);
      numbered = slice_get-map (λ placed. (placed.0, placed.1.items)) hunks number ∙ ap (option_map (λ placed. (placed.0, placed.1.items))) (slice_get_read hunks (length hunks) number hunk refl within is);
      at = at;
    }
