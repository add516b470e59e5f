-- Elements that are lent.
use Rattle.std.proofs.Common.{◌≡◌, ℕ, List, length, Option, None, Some, option_map, slice_get, refl, sym}
use Rattle.std.specs.Borrow.{Bor}
use Rattle.std.specs.Slice.{IsItemAt}
use Rattle.std.proofs.lemmas.Option.{slice_get_past, slice_get_read}

pub slice_get-lent : {X : Type 0} (xs : List X) (i : ℕ) (lent : Option (Bor X)) → IsItemAt xs i lent → option_map (λ x. x.now) lent ≡ slice_get xs i
slice_get-lent xs i None is = sym (slice_get_past xs i is.3)
slice_get-lent xs i (Some x) is = sym (slice_get_read xs (length xs) i x.now refl is.3.0 (is.3.1 x.now))
