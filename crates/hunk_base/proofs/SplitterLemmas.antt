-- What a splitter holds after one more byte.
use Rattle.std.proofs.Common.{◌≡◌, ℕ, List, [], ◌∷◌, ◌++◌, sym, ap, ◌∙◌}
use Rattle.hunk_base.specs.Longwords.{longwords, unfinished}
use Rattle.hunk_base.proofs.LongwordsLemmas.{unfinished-append, longwords-append}

pub unfinished-push : (held bytes : List ℕ) (byte : ℕ) → held ≡ unfinished bytes → unfinished (held ++ byte ∷ []) ≡ unfinished (bytes ++ byte ∷ [])
unfinished-push held bytes byte is_held = sym (unfinished-append bytes (byte ∷ []) ∙ ap (λ xs. unfinished (xs ++ byte ∷ [])) (sym is_held))

pub longwords-push : (held bytes : List ℕ) (byte : ℕ) → held ≡ unfinished bytes
    → longwords (bytes ++ byte ∷ []) ≡ longwords bytes ++ longwords (held ++ byte ∷ [])
longwords-push held bytes byte is_held = longwords-append bytes (byte ∷ []) ∙ ap (λ xs. longwords bytes ++ longwords (xs ++ byte ∷ [])) (sym is_held)
