-- The walk over words with which nothing is wrong.
use Rattle.std.proofs.Common.{◌≡◌, ◌∙◌, ap, ap₂, false, refl, subst, sym, true, Bool, ℕ, List, [], ◌∷◌, ◌++◌, Option, Some}
use Rattle.std.specs.Prelude.{fold}
use Rattle.std.specs.Str.{bytes_eq}
use Rattle.std.proofs.lemmas.Bool.{ne_eqb}
use Rattle.std.proofs.lemmas.Slice.Eq.{bytes_eq-Decides}
use Rattle.clap.specs.Words.{Kinds, Rule, Shape, Text}
use Rattle.clap.specs.Walk.{Held, Names, Walk, arg_by_id, nothing_held, finished, option, settled, walk_from, walked}
use Rattle.clap.specs.Simple.{filled}
use Rattle.clap.specs.Faults.{check_fault, defaults_fault, level_fault, settle_fault, turn_fault, walk_fault}
use Rattle.clap.specs.Kinds.{or_else}
use Rattle.amihunk.proofs.CommandLineUseLemmas.{or_else-nil}
use Rattle.amihunk.specs.Syntax.{option_rule}
use Rattle.amihunk.specs.CommandLine.{IsNoFlag}

pub walk_fault-cons : (s : Shape) (names : Names) (w v : Walk) (word : Text) (rest : List Text) → turn_fault s names w word ≡ []
    → walked s.rules names w word ≡ v → walk_fault s names v rest ≡ [] → walk_fault s names w (word ∷ rest) ≡ []
unfolding walk_fault
walk_fault-cons s names w v word rest quiet goes_on next_quiet = rw (quiet, goes_on) next_quiet

module _ (s : Shape) where
  -- the walk over more words
  abbrev pub walk_on : Walk → List Text → Walk
  walk_on w words = fold (walked s.rules []) w words

  -- nothing is wrong with these words, and the walk over them ends here
  abbrev pub Passes : Walk → List Text → Walk → Type 0
  Passes w words end = (walk_on w words ≡ end) × (walk_fault s [] w words ≡ [])

  pub passes-nil : (w : Walk) → Passes w [] w
  unfolding walk_fault
  passes-nil w = (refl, refl)

  pub passes-cons : (w v end : Walk) (word : Text) (rest : List Text) → walked s.rules [] w word ≡ v → turn_fault s [] w word ≡ []
      → Passes v rest end → Passes w (word ∷ rest) end
  passes-cons w v end word rest goes_on quiet next = (ap (λ x. walk_on x rest) goes_on ∙ next.0, walk_fault-cons s [] w v word rest quiet goes_on next.1)

  pub passes-append : (w v end : Walk) (words rest : List Text) → Passes w words v → Passes v rest end → Passes w (words ++ rest) end
  unfolding walk_fault
  passes-append w v end [] rest before next = subst (λ x. Passes x rest end) (sym before.0) next
  passes-append w v end (word ∷ words) rest before next =
      let parts = or_else-nil (turn_fault s [] w word) (walk_fault s [] (walked s.rules [] w word) words) before.1 in
      passes-cons w (walked s.rules [] w word) end word (words ++ rest) refl parts.0
      (passes-append (walked s.rules [] w word) v end words rest (before.0, parts.1) next)

-- ---- an option and its value, as `--NAME VALUE`

-- the option as `clap` builds it, which may have a letter, and be required
abbrev pub built_option : Option ℕ → Bool → Text → Rule
built_option letter needed name = filled (record (option_rule name) { short = letter; required = needed })

-- the walk that has met the option, and waits for its value
abbrev pub after_name : List Rule → Held → Text → Walk
after_name c h name = record (walk_from (record (settled c h) { pending = Some (name, []) })) { waiting = option name }

-- what is held after its value
abbrev pub value_held : List Rule → Held → Text → Text → Held
value_held c h name value = record (settled c h) { pending = Some (name, value ∷ []) }

-- the word is the option of this name, and nothing is wrong with it after what is held
pub record IsOption (s : Shape) (h : Held) (word name : Text) : Type 0 where
  pub letter : Option ℕ
  pub needed : Bool
  pub by_id : arg_by_id s.rules name ≡ Some (built_option letter needed name)
  pub met : walked s.rules [] (walk_from h) word ≡ after_name s.rules h name
  pub quiet : turn_fault s [] (walk_from h) word ≡ []

same_name : (name : Text) → bytes_eq name name ≡ true
same_name name = (bytes_eq-Decides name name).1 refl

walked-value : (s : Shape) (h : Held) (word name value : Text) → IsOption s h word name → IsNoFlag value
    → walked s.rules [] (after_name s.rules h name) value ≡ walk_from (value_held s.rules h name value)
unfolding walked
walked-value s h word name [] is plain = rw (is.by_id, same_name name) refl
walked-value s h word name (x ∷ rest) is plain = rw (ne_eqb x 45 plain, ne_eqb x 45 plain, is.by_id, same_name name) refl

turn_fault-value : (s : Shape) (h : Held) (name value : Text) → IsNoFlag value → turn_fault s [] (after_name s.rules h name) value ≡ []
turn_fault-value s h name [] plain = refl
turn_fault-value s h name (x ∷ rest) plain = rw (ne_eqb x 45 plain, ne_eqb x 45 plain) refl

-- an option and its value, and words after them
pub passes-option : (s : Shape) (h : Held) (word name value : Text) (rest : List Text) (end : Walk) → IsOption s h word name → IsNoFlag value
    → Passes s (walk_from (value_held s.rules h name value)) rest end → Passes s (walk_from h) (word ∷ value ∷ rest) end
passes-option s h word name value rest end is plain next =
    passes-cons s (walk_from h) (after_name s.rules h name) end word (value ∷ rest) is.met is.quiet
    (passes-cons s (after_name s.rules h name) (walk_from (value_held s.rules h name value)) end value rest
    (walked-value s h word name value is plain) (turn_fault-value s h name value plain) next)

-- ---- the end of a level

-- what is wrong with the defaults, or with what is required
abbrev pub late_fault : Shape → Held → Kinds
late_fault s end = or_else (defaults_fault (settled s.rules end).rows s.rules) (check_fault s (finished s.rules end) false)

-- what is wrong after the words
abbrev pub end_fault : Shape → Held → Kinds
end_fault s end = or_else (settle_fault s.rules s.args_override_self end) (late_fault s end)

pub level_fault-nil : (s : Shape) (words : List Text) (end : Walk) → Passes s (walk_from nothing_held) words end → end_fault s end.held ≡ []
    → level_fault s [] nothing_held words false [] ≡ []
level_fault-nil s words end passes quiet =
    ap₂ (λ before after. or_else before (or_else [] after)) passes.1 (ap (λ (w : Walk). end_fault s w.held) passes.0 ∙ quiet)
