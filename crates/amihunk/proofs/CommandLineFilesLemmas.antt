-- The walk over FILE or FILE..., and a subcommand whose words end with them.
use Rattle.std.proofs.Common.{◌≡◌, ◌∙◌, ◌≤◌, ◌<◌, All, ap, append-nil, append_assoc, arith, refl, subst, sym, true, false, Bool, ℕ, List, [], ◌∷◌, ◌++◌, codes, le-ltb, length, Option, Some, suc}
use Rattle.std.specs.Prelude.{◌==◌, ◌+◌, min, nat_lt}
use Rattle.std.specs.Option.{option_map_or}
use Rattle.std.proofs.lemmas.Bool.{ne_eqb}
use Rattle.std.proofs.lemmas.List.{length-append}
use Rattle.std.proofs.lemmas.List.Elements.{All-tail}
use Rattle.clap.specs.Lexer.{usize_max}
use Rattle.clap.specs.Words.{Row, Rule, Shape, Text}
use Rattle.clap.specs.Walk.{Held, Walk, arg_by_id, arg_by_index, finished, is_pending, nothing_held, positional, settled, walk_from, walked}
use Rattle.clap.specs.Simple.{filled, with_index}
use Rattle.clap.specs.Faults.{settle_fault, turn_fault, use_fault, values_fault}
use Rattle.clap.specs.Kinds.{or_else, range_kinds}
use Rattle.amihunk.proofs.CommandLineSubcommandLemmas.{IsSubcommand, calls-line}
use Rattle.amihunk.proofs.CommandLineWalkLemmas.{Passes, end_fault, late_fault, passes-append, passes-cons, passes-nil}
use Rattle.amihunk.specs.Syntax.{file_rule, files_rule_if, value_rule}
use Rattle.amihunk.specs.Call.{Call}
use Rattle.amihunk.specs.StandardInput.{inputs_of}
use Rattle.amihunk.specs.CommandLine.{Calls, IsNoFlag, written_call}

-- ---- FILE

-- the argument as `clap` builds it
abbrev pub built_one : Rule
built_one = with_index 1 (filled file_rule)

-- the walk after this file
abbrev pub after_file : Held → Text → Walk
after_file h file = record (walk_from (record h { pending = Some (codes "file", file ∷ []) })) { position = 2 }

-- FILE may come after what is held
pub record AwaitsFile (s : Shape) (held : Held) : Type 0 where
  pub by_index : arg_by_index s.rules 1 ≡ Some built_one
  pub other : is_pending built_one held.pending ≡ false
  pub quiet : settle_fault s.rules s.args_override_self held ≡ []
  pub late : (file : Text) → end_fault s (after_file (settled s.rules held) file).held ≡ []

walked-file : (s : Shape) (held : Held) (file : Text) → AwaitsFile s held → IsNoFlag file → walked s.rules [] (walk_from held) file ≡ after_file (settled s.rules held) file
unfolding walked
walked-file s held [] awaits plain = rw (awaits.by_index, awaits.other) refl
walked-file s held (c ∷ rest) awaits plain = rw (ne_eqb c 45 plain, ne_eqb c 45 plain, awaits.by_index, awaits.other) refl

turn_fault-file : (s : Shape) (held : Held) (file : Text) → AwaitsFile s held → IsNoFlag file → turn_fault s [] (walk_from held) file ≡ []
turn_fault-file s held [] awaits plain = rw (awaits.by_index, awaits.other, awaits.quiet) refl
turn_fault-file s held (c ∷ rest) awaits plain = rw (ne_eqb c 45 plain, ne_eqb c 45 plain, awaits.by_index, awaits.other, awaits.quiet) refl

-- the rows after the file
abbrev pub file_rows : Shape → Held → Text → List Row
file_rows s held file = finished s.rules (after_file (settled s.rules held) file).held

-- and what they ask for with each file
abbrev pub TakesFile : Shape → Held → (Text → Call) → Type 0
TakesFile s held call = AwaitsFile s held × ((file : Text) → written_call (Some (s.name, file_rows s held file)) ≡ Some (call file))

-- words that take a FILE, and the FILE, are this call
pub calls-file : (program : Text) (s : Shape) (words : List Text) (held : Held) (call : Text → Call) → IsSubcommand s
    → Passes s (walk_from nothing_held) words (walk_from held) → TakesFile s held call
    → (file : Text) → IsNoFlag file → All IsNoFlag (inputs_of (call file)) → Calls (program ∷ s.name ∷ (words ++ file ∷ [])) (call file)
calls-file program s words held call is front takes file plain inputs =
    let end = after_file (settled s.rules held) file in
    calls-line program s (words ++ file ∷ []) end (call file) is
    (passes-append s (walk_from nothing_held) (walk_from held) end words (file ∷ []) front
    (passes-cons s (walk_from held) end end file [] (walked-file s held file takes.0 plain) (turn_fault-file s held file takes.0 plain) (passes-nil s end)))
    (takes.0.late file) (takes.1 file) inputs

-- ---- two arguments, one after the other

-- an argument as `clap` builds it, whose value is the one at this place
abbrev pub built_value : ℕ → Text → Rule
built_value place name = with_index place (filled (value_rule name))

-- the walk at this place, where this is held
abbrev at_place : ℕ → Held → Walk
at_place place held = record (walk_from held) { position = place }

-- the place after this one
abbrev next_place : ℕ → ℕ
next_place place = min (place + 1) usize_max

-- what is held after a value
abbrev pub with_value : Shape → Held → Text → Text → Held
with_value s held name value = record (settled s.rules held) { pending = Some (name, value ∷ []) }

-- a value may come after what is held
pub record AwaitsValue (s : Shape) (held : Held) (place : ℕ) (name : Text) : Type 0 where
  pub by_index : arg_by_index s.rules place ≡ Some (built_value place name)
  pub other : is_pending (built_value place name) held.pending ≡ false
  pub quiet : settle_fault s.rules s.args_override_self held ≡ []

walked-value : (s : Shape) (held : Held) (place : ℕ) (name value : Text) → AwaitsValue s held place name → IsNoFlag value
    → walked s.rules [] (at_place place held) value ≡ at_place (next_place place) (with_value s held name value)
unfolding walked
walked-value s held place name [] awaits plain = rw (awaits.by_index, awaits.other) refl
walked-value s held place name (c ∷ rest) awaits plain = rw (ne_eqb c 45 plain, ne_eqb c 45 plain, awaits.by_index, awaits.other) refl

turn_fault-value : (s : Shape) (held : Held) (place : ℕ) (name value : Text) → AwaitsValue s held place name → IsNoFlag value → turn_fault s [] (at_place place held) value ≡ []
turn_fault-value s held place name [] awaits plain = rw (awaits.by_index, awaits.other, awaits.quiet) refl
turn_fault-value s held place name (c ∷ rest) awaits plain = rw (ne_eqb c 45 plain, ne_eqb c 45 plain, awaits.by_index, awaits.other, awaits.quiet) refl

-- what is held after both
abbrev pub with_both : Shape → Held → (one other first second : Text) → Held
with_both s held one other first second = with_value s (with_value s held one first) other second

-- the values of two arguments may come after what is held, and then they are this call
pub record TakesTwo (s : Shape) (held : Held) (one other : Text) (call : Text → Text → Call) : Type 0 where
  pub first : AwaitsValue s held 1 one
  pub second : (value : Text) → AwaitsValue s (with_value s held one value) 2 other
  pub late : (first second : Text) → end_fault s (with_both s held one other first second) ≡ []
  pub call_is : (first second : Text) → written_call (Some (s.name, finished s.rules (with_both s held one other first second))) ≡ Some (call first second)

-- words that take two values, and the values, are this call
pub calls-two : (program : Text) (s : Shape) (words : List Text) (held : Held) (one other : Text) (call : Text → Text → Call) → IsSubcommand s
    → Passes s (walk_from nothing_held) words (walk_from held) → TakesTwo s held one other call
    → (first second : Text) → IsNoFlag first → IsNoFlag second → All IsNoFlag (inputs_of (call first second)) → Calls (program ∷ s.name ∷ (words ++ first ∷ second ∷ [])) (call first second)
calls-two program s words held one other call is front takes first second plain_first plain_second inputs =
    let between = with_value s held one first in
    let end = at_place 3 (with_both s held one other first second) in
    calls-line program s (words ++ first ∷ second ∷ []) end (call first second) is
    (passes-append s (walk_from nothing_held) (walk_from held) end words (first ∷ second ∷ []) front
    (passes-cons s (walk_from held) (at_place 2 between) end first (second ∷ []) (walked-value s held 1 one first takes.first plain_first) (turn_fault-value s held 1 one first takes.first plain_first)
    (passes-cons s (at_place 2 between) end end second [] (walked-value s between 2 other second (takes.second first) plain_second)
    (turn_fault-value s between 2 other second (takes.second first) plain_second) (passes-nil s end))))
    (takes.late first second) (takes.call_is first second) inputs

-- ---- FILE...

-- the argument as `clap` builds it, which may be required
abbrev pub built_files : Bool → Rule
built_files needed = with_index 1 (filled (files_rule_if needed))

-- FILE... is the first positional of these arguments
pub record HasFiles (c : List Rule) : Type 0 where
  pub needed : Bool
  pub by_index : arg_by_index c 1 ≡ Some (built_files needed)
  pub by_id : arg_by_id c (codes "file") ≡ Some (built_files needed)

-- the walk after these files
abbrev pub after_files : Held → List Text → Walk
after_files h files = record (walk_from (record h { pending = Some (codes "file", files) })) { waiting = positional }

walked-first : (c : List Rule) (h : Held) (file : Text) → HasFiles c → is_pending (built_files true) h.pending ≡ false → IsNoFlag file
    → walked c [] (walk_from h) file ≡ after_files (settled c h) (file ∷ [])
unfolding walked
walked-first c h [] has other plain = rw (has.by_index, other) refl
walked-first c h (x ∷ rest) has other plain = rw (ne_eqb x 45 plain, ne_eqb x 45 plain, has.by_index, other) refl

walked-more : (c : List Rule) (h : Held) (seen : List Text) (file : Text) → HasFiles c → IsNoFlag file
    → walked c [] (after_files h seen) file ≡ after_files h (seen ++ file ∷ [])
unfolding walked
walked-more c h seen [] has plain = rw has.by_index refl
walked-more c h seen (x ∷ rest) has plain = rw (ne_eqb x 45 plain, ne_eqb x 45 plain, has.by_index) refl

first_plain : (file : Text) (rest : List Text) → All IsNoFlag (file ∷ rest) → IsNoFlag file
first_plain file rest plain = plain 0 file (omega arith)

turn_fault-first : (s : Shape) (h : Held) (file : Text) → HasFiles s.rules → is_pending (built_files true) h.pending ≡ false
    → settle_fault s.rules s.args_override_self h ≡ [] → IsNoFlag file → turn_fault s [] (walk_from h) file ≡ []
turn_fault-first s h [] has other quiet plain = rw (has.by_index, other, quiet) refl
turn_fault-first s h (x ∷ rest) has other quiet plain = rw (ne_eqb x 45 plain, ne_eqb x 45 plain, has.by_index, other, quiet) refl

turn_fault-more : (s : Shape) (h : Held) (seen : List Text) (file : Text) → HasFiles s.rules → IsNoFlag file → turn_fault s [] (after_files h seen) file ≡ []
turn_fault-more s h seen [] has plain = rw has.by_index refl
turn_fault-more s h seen (x ∷ rest) has plain = rw (ne_eqb x 45 plain, ne_eqb x 45 plain, has.by_index) refl

passes-more : (s : Shape) (h : Held) (seen files : List Text) → HasFiles s.rules → All IsNoFlag files → Passes s (after_files h seen) files (after_files h (seen ++ files))
passes-more s h seen [] has plain = subst (λ fs. Passes s (after_files h seen) [] (after_files h fs)) (sym (append-nil seen)) (passes-nil s (after_files h seen))
passes-more s h seen (file ∷ rest) has plain =
    let first = first_plain file rest plain in
    passes-cons s (after_files h seen) (after_files h (seen ++ file ∷ [])) (after_files h (seen ++ file ∷ rest)) file rest
    (walked-more s.rules h seen file has first) (turn_fault-more s h seen file has first)
    (subst (λ fs. Passes s (after_files h (seen ++ file ∷ [])) rest (after_files h fs)) (append_assoc seen (file ∷ []) rest)
    (passes-more s h (seen ++ file ∷ []) rest has (All-tail IsNoFlag file rest plain)))

-- the number of files is one that a use may have
range_kinds-files : (n : ℕ) → suc n ≤ usize_max → range_kinds 1 usize_max (suc n) ≡ []
range_kinds-files n fits =
    let some : (suc n == 0) ≡ false = ne_eqb (suc n) 0 (λ none. absurd (omega (arith, none))) in
    let least : nat_lt (suc n) 1 ≡ false = le-ltb (suc n) 1 (omega arith) in
    let most : nat_lt usize_max (suc n) ≡ false = le-ltb usize_max (suc n) fits in
    rw (some, least, most) refl

-- each file passes, as any text does
values_fault-files : (needed : Bool) (files : List Text) → values_fault (built_files needed) files ≡ []
values_fault-files needed [] = refl
values_fault-files needed (file ∷ rest) = values_fault-files needed rest

use_fault-files : (needed again : Bool) (file : Text) (rest : List Text) (rows : List Row) → length (file ∷ rest) ≤ usize_max
    → use_fault again (built_files needed) (file ∷ rest) rows ≡ []
use_fault-files needed again file rest rows fits =
    ap (λ kinds. or_else kinds (values_fault (built_files needed) (file ∷ rest))) (range_kinds-files (length rest) fits) ∙ values_fault-files needed (file ∷ rest)

end_fault-files : (s : Shape) (h : Held) (file : Text) (rest : List Text) → HasFiles s.rules → length (file ∷ rest) ≤ usize_max
    → late_fault s (after_files h (file ∷ rest)).held ≡ [] → end_fault s (after_files h (file ∷ rest)).held ≡ []
end_fault-files s h file rest has fits quiet =
    ap (λ kinds. or_else kinds (late_fault s (after_files h (file ∷ rest)).held))
    (ap (λ (o : Option Rule). option_map_or (λ a. use_fault s.args_override_self a (file ∷ rest) h.rows) o []) has.by_id
    ∙ use_fault-files has.needed s.args_override_self file rest h.rows fits) ∙ quiet

-- FILE... may come after what is held
pub record AwaitsFiles (s : Shape) (held : Held) : Type 0 where
  pub other : is_pending (built_files true) held.pending ≡ false
  pub quiet : settle_fault s.rules s.args_override_self held ≡ []
  pub late : (file : Text) (rest : List Text) → late_fault s (after_files (settled s.rules held) (file ∷ rest)).held ≡ []

-- the rows after the files
abbrev pub files_rows : Shape → Held → List Text → List Row
files_rows s held files = finished s.rules (after_files (settled s.rules held) files).held

-- and what they ask for with all files
abbrev pub TakesFiles : Shape → Held → (List Text → Call) → Type 0
TakesFiles s held call = AwaitsFiles s held × ((file : Text) (rest : List Text) → written_call (Some (s.name, files_rows s held (file ∷ rest))) ≡ Some (call (file ∷ rest)))

-- words that take FILE..., and at least one file, are this call; there are at most 2 ^ 64 - 1 words
pub calls-files : (program : Text) (s : Shape) (words : List Text) (held : Held) (call : List Text → Call) → IsSubcommand s → HasFiles s.rules
    → Passes s (walk_from nothing_held) words (walk_from held) → TakesFiles s held call
    → (files : List Text) → 0 < length files → All IsNoFlag files → All IsNoFlag (inputs_of (call files)) → length (words ++ files) ≤ usize_max → Calls (program ∷ s.name ∷ (words ++ files)) (call files)
calls-files program s words held call is has front takes [] some plain inputs fits = absurd (omega arith)
calls-files program s words held call is has front takes (file ∷ rest) some plain inputs fits =
    let awaits = takes.0 in
    let first = first_plain file rest plain in
    let few : length (file ∷ rest) ≤ usize_max = omega (arith, fits, length-append words (file ∷ rest)) in
    let start = settled s.rules held in
    let end = after_files start (file ∷ rest) in
    calls-line program s (words ++ file ∷ rest) end (call (file ∷ rest)) is
    (passes-append s (walk_from nothing_held) (walk_from held) end words (file ∷ rest) front
    (passes-cons s (walk_from held) (after_files start (file ∷ [])) end file rest (walked-first s.rules held file has awaits.other first)
    (turn_fault-first s held file has awaits.other awaits.quiet first)
    (passes-more s start (file ∷ []) rest has (All-tail IsNoFlag file rest plain))))
    (end_fault-files s start file rest has few (awaits.late file rest))
    (takes.1 file rest) inputs
