-- Arguments with which nothing is wrong name a subcommand of the program, with its required values.
use Rattle.std.proofs.Common.{◌≡◌, ◌⊎◌, ◌&&◌, ◌||◌, ap, ℕ, Bool, true, false, not, cond, refl, sym, inl, inr, subst, arith, List, [], ◌∷◌, codes, drop, Option, Some, None, is_some}
use Rattle.std.specs.Prelude.{find, option_map}
use Rattle.std.specs.List.{list_any}
use Rattle.std.specs.Option.{option_map_or}
use Rattle.std.specs.Str.{bytes_eq}
use Rattle.std.proofs.lemmas.Slice.Eq.{bytes_eq-Decides}
use Rattle.clap.specs.Words.{App, Row, Rule, Text, built, fault_of, subcommand_of}
use Rattle.clap.specs.Walk.{action_of, answers_to, finished, nothing_held, rows_after, settled, walk, walk_from}
use Rattle.clap.specs.Simple.{Shape, built_leaf, entered, filled, inherited, label_of, names_of, rows_at}
use Rattle.clap.specs.Takes.{is_given}
use Rattle.clap.specs.Faults.{check_fault, defaults_fault, entered_fault, level_fault, settle_fault, walk_fault}
use Rattle.clap.specs.Kinds.{check_kinds}
use Rattle.amihunk.proofs.CommandLineUseLemmas.{AllRegular, AreDefaulted, Each, Filled, IsRegular, defaulted, filled-defaults, find-each, flag_read, is_flag, or_else-nil, value_given}
use Rattle.amihunk.proofs.CommandLineUseLemmas.IsRegular.{asks_help, is_switched, is_valued}
use Rattle.amihunk.proofs.CommandLineRowLemmas.{filled-settled, filled-walk}
use Rattle.amihunk.specs.Syntax.{bare_app, check_shape, command_line, compare_shape, copy_shape, flag_rule, image_shape, letter_s, link_shape, load_shape, option_rule, show_shape, survey_shape}
use Rattle.amihunk.specs.CommandLine.{AreWhole, AreWholeFor, IsFlag, IsWhole, Met, Where, is_switch}

-- ---- one level

or_false : (a b : Bool) → (a || b) ≡ false → (a ≡ false) × (b ≡ false)
or_false true b e = cc
or_false false b e = (refl, e)

-- a required argument was given
given_where : (required given : Bool) {Fact : Type 0} → (given ≡ true → Fact) → (required && not given) ≡ false → Where required Fact
given_where true true fact e = fact refl
given_where true false fact e = cc
given_where false given fact e = tt

whole_flag : (a : Rule) (rows : List Row) → IsRegular false a → Filled rows → AreDefaulted (a ∷ []) rows → Where (is_switch (action_of a)) (IsFlag rows a.id)
whole_flag a rows (asks_help help none optional) full has = rw help tt
whole_flag a rows (is_valued (inl set) least other none) full has = rw set tt
whole_flag a rows (is_valued (inr append) least other none) full has = rw append tt
whole_flag a rows (is_switched flag once) full has = rw flag.action_is (flag_read a.id rows flag.named full (has.0 (rw flag.defaults_are refl)))

whole_rules : (c : List Rule) (rows : List Row) → AllRegular false c → Filled rows → AreDefaulted c rows
    → list_any (λ a. a.required && not (is_given a.id rows)) c ≡ false → AreWhole c rows
whole_rules [] rows all full has given = tt
whole_rules (a ∷ rest) rows all full has given =
    let parts = or_false (a.required && not (is_given a.id rows)) _ given in (
      given_where a.required (is_given a.id rows) (value_given a.id rows full) parts.0,
      whole_flag a rows all.0 full (has.0, tt),
      whole_rules rest rows all.1 full has.1 parts.1,
    )

-- nothing that is required is missing
none_missing : (wants_help wants_subcommand negates missing : Bool) → check_kinds wants_help wants_subcommand (not (negates && false) && missing) ≡ [] → missing ≡ false
none_missing true wants_subcommand negates missing e = cc
none_missing false true negates missing e = cc
none_missing false false true true e = cc
none_missing false false false true e = cc
none_missing false false negates false e = refl

-- a level without subcommands with which nothing is wrong is whole
sound : (s : Shape) → s.args_override_self ≡ false → AllRegular false s.rules → (words : List Text)
    → level_fault s [] nothing_held words false [] ≡ [] → AreWhole s.rules (rows_after s.rules [] words)
sound s once regular words e =
    let end = (walk s.rules [] nothing_held words).held in
    let all : AllRegular s.args_override_self s.rules = rw once regular in
    let walked_well = or_else-nil (walk_fault s [] (walk_from nothing_held) words) _ e in
    let settled_well = or_else-nil (settle_fault s.rules s.args_override_self end) _ walked_well.1 in
    let checked_well = or_else-nil (defaults_fault (settled s.rules end).rows s.rules) _ settled_well.1 in
    let held : Filled end.rows = filled-walk s [] all words (walk_from nothing_held) walked_well.0 tt in
    let full = filled-defaults false s.rules (settled s.rules end).rows regular (filled-settled s.rules s.args_override_self all end settled_well.0 held) in
    whole_rules s.rules (rows_after s.rules [] words) regular full (defaulted s.rules (settled s.rules end).rows)
    (none_missing _ _ s.subcommand_negates_reqs _ checked_well.1)

-- ---- the subcommands

-- a subcommand of the program as `clap` builds it
abbrev pub built_below : Shape → Shape
built_below s = built_leaf (inherited bare_app.top s)

-- an option takes a value, and so does a file
option_regular : (name : Text) → is_flag name ≡ false → IsRegular false (filled (option_rule name))
option_regular name other = is_valued (inl refl) (omega arith) other refl

flag_regular : (letter : Option ℕ) (name : Text) → is_flag name ≡ true → IsRegular false (filled (record (flag_rule name) { short = letter }))
flag_regular letter name named =
    is_switched (record { action_is = refl; range_is = refl; missing_is = refl; reading_is = refl; defaults_are = refl; named = named; optional = refl }) refl

-- what each of these subcommands ends with: `[--explain] FILE`, or `[--explain] FILE...`
file_regular : AllRegular false (drop 1 (built_below check_shape).rules)
file_regular = (flag_regular None (codes "explain") refl, (is_valued (inl refl) (omega arith) refl refl, (asks_help refl refl refl, tt)))

files_regular : AllRegular false (drop 4 (built_below image_shape).rules)
files_regular = (flag_regular None (codes "explain") refl, (is_valued (inr refl) (omega arith) refl refl, (asks_help refl refl refl, tt)))

-- and these with `[--files-from LIST] [--lines] [FILE...]`
listed_regular : AllRegular false (drop 3 (built_below survey_shape).rules)
listed_regular = (option_regular (codes "files-from") refl, (flag_regular None (codes "lines") refl, (is_valued (inr refl) (omega arith) refl refl, (asks_help refl refl refl, tt))))

link_flags : AllRegular false (drop 2 (built_below link_shape).rules)
link_flags = (flag_regular (Some letter_s) (codes "strip") refl, (flag_regular None (codes "short") refl, (flag_regular None (codes "trim") refl, (flag_regular None (codes "globals") refl, (flag_regular None (codes "explain") refl, listed_regular)))))

link_regular : AllRegular false (built_below link_shape).rules
link_regular = (is_valued (inl refl) (omega arith) refl refl, (option_regular (codes "map") refl, link_flags))

check_regular : AllRegular false (built_below check_shape).rules
check_regular = (flag_regular None (codes "lint") refl, file_regular)

load_flags : AllRegular false (drop 2 (built_below load_shape).rules)
load_flags = (flag_regular None (codes "srec") refl, (flag_regular None (codes "symbols") refl, file_regular))

load_regular : AllRegular false (built_below load_shape).rules
load_regular = (option_regular (codes "at") refl, (option_regular (codes "at-file") refl, load_flags))

image_regular : AllRegular false (built_below image_shape).rules
image_regular = (option_regular (codes "at") refl, (option_regular (codes "at-file") refl, (flag_regular None (codes "srec") refl, (flag_regular None (codes "symbols") refl, files_regular))))

show_regular : AllRegular false (built_below show_shape).rules
show_regular = (flag_regular None (codes "json") refl, (flag_regular None (codes "content") refl, (flag_regular None (codes "html") refl, (flag_regular None (codes "names") refl, files_regular))))

survey_regular : AllRegular false (built_below survey_shape).rules
survey_regular = (flag_regular None (codes "json") refl, (flag_regular None (codes "digest") refl, (flag_regular None (codes "wait") refl, listed_regular)))

copy_flags : AllRegular false (drop 1 (built_below copy_shape).rules)
copy_flags = (flag_regular (Some letter_s) (codes "strip") refl, (flag_regular None (codes "short") refl, (flag_regular None (codes "trim") refl, (flag_regular None (codes "normal") refl, file_regular))))

copy_regular : AllRegular false (built_below copy_shape).rules
copy_regular = (is_valued (inl refl) (omega arith) refl refl, copy_flags)

compare_regular : AllRegular false (built_below compare_shape).rules
compare_regular = (
  flag_regular None (codes "symbols") refl,
  (is_valued (inl refl) (omega arith) refl refl, (is_valued (inl refl) (omega arith) refl refl, (asks_help refl refl refl, tt))),
)

-- ---- the command line

-- the command line as `clap` builds it
abbrev pub line : App
line = built command_line

-- where nothing is wrong with the arguments of the subcommand, it is whole
abbrev IsSound : Shape → Type 0
IsSound s = (words : List Text) → level_fault s [] nothing_held words false [] ≡ [] → IsWhole (Some (rows_at s words))

all_sound : Each IsSound line.subs
all_sound = (
  sound (built_below link_shape) refl link_regular,
  (
    sound (built_below load_shape) refl load_regular,
    (
      sound (built_below image_shape) refl image_regular,
      (
        sound (built_below check_shape) refl check_regular,
        (
          sound (built_below show_shape) refl show_regular,
          (
            sound (built_below survey_shape) refl survey_regular,
            (sound (built_below copy_shape) refl copy_regular, (sound (built_below compare_shape) refl compare_regular, tt)),
          ),
        ),
      ),
    ),
  ),
)

-- a subcommand is required, and a sound one is whole
whole_where_found : (found : Option Shape) (words : List Text) (rows : List Row) → ((s : Shape) → found ≡ Some s → IsSound s)
    → option_map_or (λ s. level_fault s [] nothing_held words false []) found [] ≡ []
    → check_fault line.top rows (is_some (option_map (λ s. rows_at s words) found)) ≡ [] → IsWhole (option_map (λ s. rows_at s words) found)
whole_where_found None words rows sound below checked = cc
whole_where_found (Some s) words rows sound below checked = sound s refl words below

-- what a walk that stopped there has entered
whole_where_entered : (stop : Option (Text × List Text)) (rows : List Row) → entered_fault line stop ≡ []
    → check_fault line.top rows (is_some (entered line stop)) ≡ [] → IsWhole (entered line stop)
whole_where_entered None rows below checked = cc
whole_where_entered (Some p) rows below checked =
    whole_where_found (find (λ s. answers_to p.0 (label_of s)) line.subs) p.1 rows (λ s found. find-each IsSound (λ (x : Shape). answers_to p.0 (label_of x)) line.subs s all_sound found) below checked

pub whole_where_faultless : (words : List Text) → fault_of command_line words ≡ [] → IsWhole (subcommand_of command_line words)
whole_where_faultless words e =
    let rest = drop 1 words in
    let walked = walk line.top.rules (names_of line) nothing_held rest in
    let end = walked.held in
    let walked_well = or_else-nil (walk_fault line.top (names_of line) (walk_from nothing_held) rest) _ e in
    let entered_well = or_else-nil (entered_fault line walked.stopped) _ walked_well.1 in
    let settled_well = or_else-nil (settle_fault line.top.rules line.top.args_override_self end) _ entered_well.1 in
    let checked_well = or_else-nil (defaults_fault (settled line.top.rules end).rows line.top.rules) _ settled_well.1 in
    whole_where_entered walked.stopped (finished line.top.rules end) entered_well.0 checked_well.1

-- ---- the names of the subcommands

-- the name is that of one of these subcommands
abbrev pub IsOneOf : Option Text → List Shape → Type 0
IsOneOf name [] = ⊥
IsOneOf name (s ∷ rest) = (name ≡ Some s.name) ⊎ IsOneOf name rest

known_among : (name : Text) (rows : List Row) (subs : List Shape) → AreWholeFor (find (λ s. bytes_eq s.name name) subs) rows → IsOneOf (Some name) subs
known_among name rows [] whole = absurd whole
known_among name rows (s ∷ rest) whole = go (bytes_eq s.name name) refl whole (known_among name rows rest)
  where
    go : (b : Bool) → bytes_eq s.name name ≡ b → AreWholeFor (cond b (Some s) (find (λ x. bytes_eq x.name name) rest)) rows
        → (AreWholeFor (find (λ x. bytes_eq x.name name) rest) rows → IsOneOf (Some name) rest) → IsOneOf (Some name) (s ∷ rest)
    go true same w later = inl (ap Some (sym ((bytes_eq-Decides s.name name).0 same)))
    go false same w later = inr (later w)

-- what is whole has the name of one of the program's subcommands
pub known : (met : Met) → IsWhole met → IsOneOf (option_map (λ p. p.0) met) line.subs
known None whole = absurd whole
known (Some (name, rows)) whole = known_among name rows line.subs whole

-- and is so at its name
pub whole_at : (met : Met) (name : Text) (rows : List Row) → met ≡ Some (name, rows) → IsWhole met → IsWhole (Some (name, rows))
whole_at met name rows = subst IsWhole
