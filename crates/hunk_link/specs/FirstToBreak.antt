-- The first of several items that breaks a rule for all of them.
use Rattle.std.specs.Prelude.{◌≡◌, List, [], ◌∷◌, ◌++◌}

-- those before it obey the rule, and with it they do not
pub record IsFirstToBreak {X : Type 0} (Rule : List X → Type 0) (items : List X) (item : X) : Type 0 where
  pub before : List X
  pub after : List X
  pub among : items ≡ before ++ item ∷ after
  pub obeyed : Rule before
  pub broken : ¬ Rule (before ++ item ∷ [])
