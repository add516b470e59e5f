-- The lines that explain a link, one after another.
use Rattle.std.proofs.Common.{◌≡◌, ◌∙◌, ℕ, zero, suc, ◌+◌, ◌-◌, ◌<◌, ◌≤◌, List, [], ◌∷◌, ◌++◌, Some, None, drop, get_or, length, sym, ap, take, append_assoc, arith}
use Rattle.std.specs.Prelude.{slice_get}
use Rattle.std.specs.List.{flat_map}
use Rattle.std.proofs.lemmas.List.{at_drop_more, drop_all, get_or-take, length-take}
use Rattle.std.proofs.lemmas.Option.{get_or_from_slice_get, slice_get_within}
use Rattle.hunk_origins.specs.LinkExplanation.{more_line, most_told, use_line}
use Rattle.hunk_origins.specs.Undefined.{Use, Uses}

-- the text of the names from this one on
abbrev pub uses_rest : (names : List (List ℕ)) (index : ℕ) → Uses → List ℕ
uses_rest names index uses = flat_map (use_line names) (drop index (take most_told uses)) ++ more_line (length uses - most_told)

-- what those from one on give
flat_map-next : {X Y : Type 0} (f : X → List Y) (xs : List X) (i : ℕ) (x : X) → i < length xs → x ≡ get_or xs i x → flat_map f (drop i xs) ≡ f x ++ flat_map f (drop (i + 1) xs)
flat_map-next f xs i x within is = at_drop_more (flat_map f) xs i x within ∙ ap (λ y. f y ++ flat_map f (drop (i + 1) xs)) (sym is)

slice_get_ended : (uses : Uses) (index : ℕ) → slice_get uses index ≡ None → length uses ≤ index
slice_get_ended [] index none = omega arith
slice_get_ended (used ∷ uses) zero none = cc
slice_get_ended (used ∷ uses) (suc index) none = omega (arith, slice_get_ended uses index none)

module _ (names : List (List ℕ)) (index : ℕ) (uses : Uses) where
  -- one of the first names
  pub uses_rest-more : (used : List ℕ × Use) → index < most_told → slice_get uses index ≡ Some used → uses_rest names index uses ≡ use_line names used ++ uses_rest names (index + 1) uses
  uses_rest-more used told at =
      let inside : index < length uses = slice_get_within uses index used at in
      let within : index < length (take most_told uses) = omega (arith, inside, told, length-take most_told uses) in
      let is : used ≡ get_or (take most_told uses) index used = sym (get_or-take most_told uses index used told ∙ get_or_from_slice_get uses index used used at) in
      ap (λ text. text ++ more_line (length uses - most_told)) (flat_map-next (use_line names) (take most_told uses) index used within is)
      ∙ append_assoc (use_line names used) (flat_map (use_line names) (drop (index + 1) (take most_told uses))) (more_line (length uses - most_told))

  -- there are no more names
  pub uses_rest-none : index < most_told → slice_get uses index ≡ None → uses_rest names index uses ≡ []
  uses_rest-none told none =
      let ended : length uses ≤ index = slice_get_ended uses index none in
      let no_more : length uses - most_told ≡ 0 = omega (arith, ended, told) in
      ap (λ left. flat_map (use_line names) left ++ more_line (length uses - most_told)) (drop_all index (take most_told uses) (omega (arith, ended, length-take most_told uses)))
      ∙ ap more_line no_more

  -- as many as are told
  pub uses_rest-last : most_told ≤ index → uses_rest names index uses ≡ more_line (length uses - most_told)
  uses_rest-last told =
      ap (λ left. flat_map (use_line names) left ++ more_line (length uses - most_told)) (drop_all index (take most_told uses) (omega (arith, told, length-take most_told uses)))
