-- The symbols and debug blocks of a hunk, as a builder holds them.
use Rattle.std.specs.Prelude.{ℕ, List, [], Vec, map}

-- the elements of Vecs
abbrev pub lists_of : {A T : Type 0} → List (Vec T A) → List (List T)
lists_of vecs = map (λ v. v.items) vecs

-- names with their values, and the longwords of each debug block, in file order
pub record DebugLists : Type 0 where
  pub symbols : List (List ℕ × ℕ)
  pub debugs : List (List ℕ)

abbrev pub no_debug_info : DebugLists
no_debug_info = record { symbols = []; debugs = [] }
