-- If nothing is wrong with the words, the walk over them keeps each row filled.
use Rattle.std.proofs.Common.{◌≡◌, ◌&&◌, ℕ, zero, suc, Bool, true, false, cond, refl, List, [], ◌∷◌, length, drop, Option, Some, None, is_some}
use Rattle.std.specs.Prelude.{encode_utf8, fold, slice_get, if◌then◌else◌}
use Rattle.std.specs.Option.{option_map_or}
use Rattle.std.specs.Str.{bytes_eq, chars}
use Rattle.clap.specs.Lexer.{long_of, short_of}
use Rattle.clap.specs.Kinds.{Kinds, or_else}
use Rattle.clap.specs.Walk.{Held, Names, Outcome, Rule, Step, Text, Waiting, Walk, after_flag, after_step, arg_by_id, arg_by_index, arg_by_long, arg_by_short, attached_value, bundle_met, bundle_step, flag_met, idle, long_met, long_or_other, next, option, option_met, option_word, plain, plain_word, positional, positional_held, reacted, settled, settled_rows, short_met, short_or_plain, subcommand, subcommand_met, subcommand_or_other, to_positional, trailing, used_by_id, value, waits, walked, walked_from, word_met, done, refused, is_pending, takes_several, takes_values}
use Rattle.clap.specs.Simple.{Shape}
use Rattle.clap.specs.Faults.{bundle_fault, bundle_step_fault, flag_word_fault, flags_fault, long_fault, option_fault, other_fault, positional_fault, react_fault, settle_fault, short_fault, step_fault, stray_fault, turn_fault, use_fault, walk_fault, word_fault}
use Rattle.clap.specs.declared.error.ErrorKind.TheVariants.{TooManyValues}
use Rattle.amihunk.proofs.CommandLineUseLemmas.{AllRegular, Filled, IsRegular, filled-used, find-each, or_else-nil}

-- what holds of either choice, where nothing is wrong with it, holds of the one that is made
choice-quiet : {X : Type 0} (P : X → Type 0) (b : Bool) (x y : X) (e f : Kinds) → (e ≡ [] → P x) → (f ≡ [] → P y) → cond b e f ≡ [] → P (cond b x y)
choice-quiet P true x y e f one other quiet = one quiet
choice-quiet P false x y e f one other quiet = other quiet

option-quiet : {A : Type 0} (P : Option A → Type 0) (fault : A → Kinds) (o : Option A) (none : Kinds) → P None
    → ((a : A) → o ≡ Some a → fault a ≡ [] → P (Some a)) → option_map_or fault o none ≡ [] → P o
option-quiet P fault None none without some quiet = without
option-quiet P fault (Some a) none without some quiet = some a refl quiet

-- the rows of what is met, or of where the walk stands, are filled
abbrev FilledAt : {Y : Type 0} → Held × Y → Type 0
FilledAt met = Filled met.0.rows

module _ (c : List Rule) (again : Bool) (all : AllRegular again c) where
  -- ---- what is held

  pub filled-settled : (h : Held) → settle_fault c again h ≡ [] → Filled h.rows → Filled (settled c h).rows
  filled-settled h e full =
      option-quiet (λ pending. Filled (settled_rows c pending h.rows)) (λ p. option_map_or (λ a. use_fault again a p.1 h.rows) (arg_by_id c p.0) []) h.pending [] full
      (λ p is. option-quiet (λ o. Filled (used_by_id o p.1 h.rows)) (λ a. use_fault again a p.1 h.rows) (arg_by_id c p.0) [] full
      (λ a found fault. filled-used again a p.1 h.rows (find-each (IsRegular again) _ c a all found) fault full)) e

  filled-reacted : (a : Rule) (values : List Text) (h : Held) → IsRegular again a → react_fault c again a values h ≡ [] → Filled h.rows → Filled (reacted c a values h).rows
  filled-reacted a values h regular e full =
      let parts = or_else-nil (settle_fault c again h) (use_fault again a values (settled c h).rows) e in
      filled-used again a values (settled c h).rows regular parts.1 (filled-settled h parts.0 full)

  filled-option_met : (a : Rule) (v : Option Text) (h : Held) → IsRegular again a → option_fault c again a v h ≡ [] → Filled h.rows → FilledAt (option_met c a v h)
  filled-option_met a (Some v) h regular e full = filled-reacted a (v ∷ []) h regular e full
  filled-option_met a None h regular e full = filled-settled h e full

  filled-flag_met : (a : Rule) (v : Option Text) (h : Held) → IsRegular again a → (if is_some v then TooManyValues ∷ [] else react_fault c again a [] h) ≡ []
      → Filled h.rows → FilledAt (flag_met c a v h)
  filled-flag_met a (Some v) h regular e full = full
  filled-flag_met a None h regular e full = filled-reacted a [] h regular e full

  filled-long_met : (o : Option Rule) (v : Option Text) (h : Held) → ((a : Rule) → o ≡ Some a → IsRegular again a) → long_fault c again o v h ≡ []
      → Filled h.rows → FilledAt (long_met c o v h)
  filled-long_met None v h regular e full = full
  filled-long_met (Some a) v h regular e full =
      choice-quiet FilledAt (takes_values a) (option_met c a v h) (flag_met c a v h) (option_fault c again a v h) _
      (λ fault. filled-option_met a v h (regular a refl) fault full) (λ fault. filled-flag_met a v h (regular a refl) fault full) e

  -- ---- bundles of short options

  -- the rest of a bundle keeps each row filled
  abbrev KeepsFilled : (Text → ℕ → Outcome → Held → Held × Outcome) → (Text → ℕ → Held → Kinds) → Type 0
  KeepsFilled step fault = (t : Text) (n : ℕ) (s : Outcome) (g : Held) → fault t n g ≡ [] → Filled g.rows → FilledAt (step t n s g)

  filled-short_met : (o : Option Rule) (rest : Text) (h : Held) (step : Text → ℕ → Outcome → Held → Held × Outcome) (fault : Text → ℕ → Held → Kinds) → KeepsFilled step fault
      → ((a : Rule) → o ≡ Some a → IsRegular again a) → short_fault c again o rest h (fault rest 0) ≡ [] → Filled h.rows → FilledAt (short_met c o rest h (step rest 0 done))
  filled-short_met None rest h step fault keeps regular e full = full
  filled-short_met (Some a) rest h step fault keeps regular e full =
      choice-quiet FilledAt (takes_values a) (option_met c a (attached_value rest) h) (step rest 0 done (reacted c a [] h)) (option_fault c again a (attached_value rest) h) _
      (λ f. filled-option_met a (attached_value rest) h (regular a refl) f full)
      (λ f. let parts = or_else-nil (react_fault c again a [] h) (fault rest 0 (reacted c a [] h)) f in
      keeps rest 0 done (reacted c a [] h) parts.1 (filled-reacted a [] h (regular a refl) parts.0 full)) e

  filled-bundle_step : (o : Option ℕ) (flags : Text) (skip : ℕ) (so_far : Outcome) (h : Held) (step : Text → ℕ → Outcome → Held → Held × Outcome) (fault : Text → ℕ → Held → Kinds)
      → KeepsFilled step fault → bundle_step_fault c again o flags skip h fault ≡ [] → Filled h.rows → FilledAt (bundle_step c o flags skip so_far h step)
  filled-bundle_step None flags skip so_far h step fault keeps e full = full
  filled-bundle_step (Some x) flags zero so_far h step fault keeps e full =
      filled-short_met (arg_by_short c x) (drop (length (encode_utf8 x)) flags) h step fault keeps (λ a found. find-each (IsRegular again) _ c a all found) e full
  filled-bundle_step (Some x) flags (suc skip) so_far h step fault keeps e full = keeps (drop (length (encode_utf8 x)) flags) skip so_far h e full

  filled-bundle_met : (k : ℕ) → KeepsFilled (bundle_met c k) (flags_fault c again k)
  unfolding bundle_met flags_fault
  filled-bundle_met zero flags skip so_far h e full = full
  filled-bundle_met (suc k) flags skip so_far h e full =
      filled-bundle_step (slice_get (chars flags) 0) flags skip so_far h (bundle_met c k) (flags_fault c again k) (filled-bundle_met k) e full

  -- ---- one word

  -- an argument that is not a flag leaves the rows as they are
  rows-plain_word : (waiting : Waiting) (word : Text) (h : Held) → (plain_word c waiting word h).0.rows ≡ h.rows
  rows-plain_word idle word h = refl
  rows-plain_word (option id) word h = go (arg_by_id c id)
    where
      go : (o : Option Rule) → (option_word o id word h).0.rows ≡ h.rows
      go None = refl
      go (Some a) = refl
  rows-plain_word positional word h = refl

  rows-after_flag : (waiting : Waiting) (word : Text) (h : Held) (o : Outcome) → (after_flag c waiting word h o).0.rows ≡ h.rows
  rows-after_flag waiting word h done = refl
  rows-after_flag waiting word h (waits id) = refl
  rows-after_flag waiting word h plain = rows-plain_word waiting word h
  rows-after_flag waiting word h refused = rows-plain_word waiting word h

  filled-flag_word : (waiting : Waiting) (word : Text) (p : Option (Text × Option Text)) (h : Held) → flag_word_fault c again p word h ≡ [] → Filled h.rows
      → FilledAt (long_or_other c waiting word p h)
  filled-flag_word waiting word (Some p) h e full =
      let met = long_met c (arg_by_long c p.0) p.1 h in
      rw (rows-after_flag waiting word met.0 met.1) (filled-long_met (arg_by_long c p.0) p.1 h (λ a found. find-each (IsRegular again) _ c a all found) e full)
  filled-flag_word waiting word None h e full =
      option-quiet (λ o. FilledAt (short_or_plain c waiting word o h)) (λ flags. bundle_fault c again flags h) (short_of word) [] (rw (rows-plain_word waiting word h) full)
      (λ flags is f. let met = bundle_met c (length flags) flags h.skip plain (record h { skip = 0 }) in
      rw (rows-after_flag waiting word met.0 met.1) (filled-bundle_met (length flags) flags h.skip plain (record h { skip = 0 }) f full)) e

-- ---- the walk

module _ (s : Shape) (names : Names) (all : AllRegular s.args_override_self s.rules) where
  filled-other : (o : Option Text) (waiting : Waiting) (position : ℕ) (word : Text) (h : Held) → other_fault s o word h ≡ [] → Filled h.rows
      → FilledAt (subcommand_or_other s.rules o waiting position word h)
  filled-other (Some name) waiting position word h e full = full
  filled-other None waiting position word h e full =
      choice-quiet FilledAt (bytes_eq word (45 ∷ 45 ∷ [])) (h, trailing position) (long_or_other s.rules waiting word (long_of word) h) [] _
      (λ f. full) (λ f. filled-flag_word s.rules s.args_override_self all waiting word (long_of word) h f full) e

  filled-word_met : (is_trailing : Bool) (waiting : Waiting) (position : ℕ) (word : Text) (h : Held) → word_fault s names is_trailing waiting word h ≡ [] → Filled h.rows
      → FilledAt (word_met s.rules names is_trailing waiting position word h)
  filled-word_met true waiting position word h e full = full
  filled-word_met false waiting position word h e full = filled-other (subcommand_met names waiting word) waiting position word h e full

  filled-positional : (a : Rule) (word : Text) (h : Held) → positional_fault s.rules s.args_override_self a h ≡ [] → Filled h.rows → Filled (positional_held s.rules a word h).rows
  filled-positional a word h e full =
      choice-quiet (λ (held : Held). Filled held.rows) (is_pending a h.pending && takes_several a) h (settled s.rules h) [] _
      (λ f. full) (λ f. filled-settled s.rules s.args_override_self all h f full) e

  filled-after_step : (word : Text) (w : Walk) (h : Held) (step : Step) → step_fault s w.position h step ≡ [] → Filled h.rows → Filled (after_step s.rules word w h step).held.rows
  filled-after_step word w h (next waiting) e full = full
  filled-after_step word w h (trailing position) e full = full
  filled-after_step word w h (subcommand name) e full = full
  filled-after_step word w h value e full =
      option-quiet (λ o. Filled (to_positional s.rules o word w h).held.rows) (λ a. positional_fault s.rules s.args_override_self a h) (arg_by_index s.rules w.position) (stray_fault s)
      full (λ a is f. filled-positional a word h f full) e

  filled-walked : (w : Walk) (word : Text) → turn_fault s names w word ≡ [] → Filled w.held.rows → Filled (walked s.rules names w word).held.rows
  unfolding walked
  filled-walked w word e full = go w.stopped e
    where
      go : (stop : Option (Text × List Text))
          → (if is_some stop then [] else or_else (word_fault s names w.is_trailing w.waiting word w.held)
          (step_fault s w.position (word_met s.rules names w.is_trailing w.waiting w.position word w.held).0
          (word_met s.rules names w.is_trailing w.waiting w.position word w.held).1)) ≡ []
          → Filled (walked_from s.rules names stop w word).held.rows
      go (Some p) f = full
      go None f =
          let met = word_met s.rules names w.is_trailing w.waiting w.position word w.held in
          let parts = or_else-nil (word_fault s names w.is_trailing w.waiting word w.held) (step_fault s w.position met.0 met.1) f in
          filled-after_step word w met.0 met.1 parts.1 (filled-word_met w.is_trailing w.waiting w.position word w.held parts.0 full)

  -- a walk with which nothing is wrong keeps each row filled
  pub filled-walk : (words : List Text) (w : Walk) → walk_fault s names w words ≡ [] → Filled w.held.rows → Filled (fold (walked s.rules names) w words).held.rows
  unfolding walk_fault
  filled-walk [] w e full = full
  filled-walk (word ∷ rest) w e full =
      let parts = or_else-nil (turn_fault s names w word) (walk_fault s names (walked s.rules names w word) rest) e in
      filled-walk rest (walked s.rules names w word) parts.1 (filled-walked w word parts.0 full)
