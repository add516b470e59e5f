-- Lists of sites that are made one by one.
use Rattle.std.proofs.Common.{◌≡◌, ◌∙◌, ℕ, List, [], ◌∷◌, ◌++◌, map, ap, ap₂, append_assoc, append-nil, sym}
use Rattle.std.proofs.lemmas.List.{map_push}
use Rattle.amihunk_c.specs.declared.told.SiteTold.{SiteTold}

-- There is a site for each of those before the ones that are left.
pub record Told {T : Type 0} (site : ℕ × T → SiteTold) (made : List SiteTold) (left all : List (ℕ × T)) : Type 0 where
  pub done : List (ℕ × T)
  pub parts : done ++ left ≡ all
  pub told : made ≡ map site done

-- one more
pub Told-more : {T : Type 0} (site : ℕ × T → SiteTold) (made : List SiteTold) (left all rest : List (ℕ × T)) (made_now : SiteTold) (one : ℕ × T)
    → Told site made left all → left ≡ one ∷ rest → made_now ≡ site one → Told site (made ++ made_now ∷ []) rest all
Told-more site made left all rest made_now one so_far next same =
    record {
      done = so_far.done ++ one ∷ [];
      parts = append_assoc so_far.done (one ∷ []) rest ∙ ap (λ sites. so_far.done ++ sites) (sym next) ∙ so_far.parts;
      told = ap₂ (λ front last. front ++ last ∷ []) so_far.told same ∙ sym (map_push site so_far.done one);
    }

-- all of them
pub Told-all : {T : Type 0} (site : ℕ × T → SiteTold) (made : List SiteTold) (left all : List (ℕ × T)) → Told site made left all → left ≡ [] → made ≡ map site all
Told-all site made left all so_far none =
    so_far.told ∙ ap (map site) (sym (append-nil so_far.done) ∙ ap (λ sites. so_far.done ++ sites) (sym none) ∙ so_far.parts)
