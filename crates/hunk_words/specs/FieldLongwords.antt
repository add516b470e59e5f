-- The longwords of fields: a whole one for each, or one for two halves, the upper before the lower.
use Rattle.std.specs.Prelude.{ℕ, zero, suc, ◌+◌, ◌*◌, ◌^◌, List, [], ◌∷◌, length, drop, Option, Some, None}
use Rattle.hunk_words.specs.Kinds.{Field, width}
use Rattle.hunk_words.specs.Kinds.Width.{long, half}
use Rattle.hunk_words.specs.declared.kinds.Half.{Half}
use Rattle.hunk_words.specs.declared.kinds.Half.TheVariants.{Upper as upper, Lower as lower}

-- The first argument is an upper half that waits for its lower one.
abbrev pub longwords_after : Option ℕ → List Field → List ℕ
longwords_after None [] = []
longwords_after (Some m) [] = (m * 2 ^ 16) ∷ []
longwords_after None (f ∷ fs) = elim (width f.kind) [ long ↦ f.number ∷ longwords_after None fs | half h ↦ longwords_after (Some f.number) fs ]
longwords_after (Some m) (f ∷ fs) = (m * 2 ^ 16 + f.number) ∷ longwords_after None fs

-- the longwords of fields
abbrev pub longwords_of : List Field → List ℕ
longwords_of fs = longwords_after None fs

-- From the upper half of a longword on, those of n longwords; from a lower half on, that one and those of n more.
abbrev pub fields_from : Half → ℕ → List Field → List Field
fields_from upper zero fs = []
fields_from upper (suc n) [] = []
fields_from upper (suc n) (f ∷ fs) = elim (width f.kind) [ long ↦ f ∷ fields_from upper n fs | half h ↦ f ∷ fields_from lower n fs ]
fields_from lower n [] = []
fields_from lower n (f ∷ fs) = f ∷ fields_from upper n fs

-- the fields in the first n longwords
abbrev pub fields_in : ℕ → List Field → List Field
fields_in n fs = fields_from upper n fs

-- the fields after the first n longwords
abbrev pub fields_after : ℕ → List Field → List Field
fields_after n fs = drop (length (fields_in n fs)) fs
