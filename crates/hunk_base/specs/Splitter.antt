-- What a splitter stands for: the bytes pushed, of which it holds those of the unfinished longword.
use Rattle.std.specs.Prelude.{◌≡◌, ℕ, List, [], ◌∷◌}
use Rattle.hunk_base.specs.Longwords.{unfinished}
use Rattle.hunk_base.specs.declared.splitter.Held.{Held}
use Rattle.hunk_base.specs.declared.splitter.Held.TheVariants.{Nothing, One, Two, Three}
use Rattle.hunk_base.specs.declared.splitter.Splitter.{Splitter}

abbrev pub held_bytes : Held → List ℕ
held_bytes Nothing = []
held_bytes (One a) = a ∷ []
held_bytes (Two a b) = a ∷ b ∷ []
held_bytes (Three a b c) = a ∷ b ∷ c ∷ []

pub record StandsFor (splitter : Splitter) (bytes : List ℕ) : Type 0 where
  pub held : held_bytes splitter.held ≡ unfinished bytes
