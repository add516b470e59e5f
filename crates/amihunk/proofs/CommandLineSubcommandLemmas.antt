-- The program's own level, where the first word names a subcommand and the words after it are left
-- to that.
use Rattle.std.proofs.Common.{All, ◌≡◌, ◌∙◌, ap, ap₂, refl, sym, false, List, [], ◌∷◌, ◌++◌, is_some, Some}
use Rattle.std.specs.Prelude.{find, fold, option_map}
use Rattle.clap.specs.Words.{Kinds, Shape, Text, fault_of, subcommand_of}
use Rattle.clap.specs.Walk.{Names, Walk, answers_to, finished, nothing_held, rows_after, settled, walk, walk_from, walked}
use Rattle.clap.specs.Simple.{entered, label_of, names_of, rows_at}
use Rattle.clap.specs.Faults.{check_fault, defaults_fault, entered_fault, level_fault, settle_fault, turn_fault, walk_fault}
use Rattle.clap.specs.Kinds.{or_else}
use Rattle.clap.proofs.OnLiterals.{clap_on_literals}
use Rattle.clap.proofs.WalkLemmas.{walk_stopped}
use Rattle.amihunk.proofs.CommandLineLemmas.{line, whole_where_faultless}
use Rattle.amihunk.proofs.CommandLineWalkLemmas.{Passes, end_fault, level_fault-nil, walk_fault-cons}
use Rattle.amihunk.specs.Syntax.{command_line}
use Rattle.amihunk.specs.Call.{Call}
use Rattle.amihunk.specs.CommandLine.{Calls, IsNoFlag, call_of, written_call}
use Rattle.amihunk.specs.StandardInput.{inputs_of, made_call}
use Rattle.amihunk.proofs.StandardInputLemmas.{made_plain}

-- the walk that has met a subcommand, and these words after it
abbrev at_name : Text → List Text → Walk
at_name name words = record (walk_from nothing_held) { stopped = Some (name, words) }

-- the program has this subcommand
pub record IsSubcommand (s : Shape) : Type 0 where
  pub met : walked line.top.rules (names_of line) (walk_from nothing_held) s.name ≡ at_name s.name []
  pub quiet : turn_fault line.top (names_of line) (walk_from nothing_held) s.name ≡ []
  pub found : find (λ x. answers_to s.name (label_of x)) line.subs ≡ Some s

walk-line : (s : Shape) (words : List Text) → IsSubcommand s → walk line.top.rules (names_of line) nothing_held (s.name ∷ words) ≡ at_name s.name words
walk-line s words is =
    ap (λ w. fold (walked line.top.rules (names_of line)) w words) is.met
    ∙ sym (walk_stopped line.top.rules (names_of line) (walk_from nothing_held) s.name [] words)

-- nothing is wrong with words that are left to a subcommand
walk_fault-stopped : (s : Shape) (names : Names) (w : Walk) (name : Text) (seen words : List Text)
    → walk_fault s names (record w { stopped = Some (name, seen) }) words ≡ []
unfolding walk_fault walked
walk_fault-stopped s names w name seen [] = refl
walk_fault-stopped s names w name seen (x ∷ xs) = walk_fault-stopped s names w name (seen ++ x ∷ []) xs

walk_fault-line : (s : Shape) (words : List Text) → IsSubcommand s → walk_fault line.top (names_of line) (walk_from nothing_held) (s.name ∷ words) ≡ []
walk_fault-line s words is =
    walk_fault-cons line.top (names_of line) (walk_from nothing_held) (at_name s.name []) s.name words is.quiet is.met
    (walk_fault-stopped line.top (names_of line) (walk_from nothing_held) s.name [] words)

-- what is wrong after a walk that ended there
abbrev line_fault : Walk → Kinds
line_fault w = or_else (entered_fault line w.stopped) (or_else (settle_fault line.top.rules line.top.args_override_self w.held)
    (or_else (defaults_fault (settled line.top.rules w.held).rows line.top.rules)
    (check_fault line.top (finished line.top.rules w.held) (is_some (entered line w.stopped)))))

line_fault-named : (s : Shape) (words : List Text) → IsSubcommand s → level_fault s [] nothing_held words false [] ≡ []
    → line_fault (at_name s.name words) ≡ []
unfolding clap_on_literals
line_fault-named s words is quiet = rw (is.found, quiet) refl

-- nothing is wrong with the arguments if nothing is wrong with those of the subcommand
fault_of-line : (program : Text) (s : Shape) (words : List Text) → IsSubcommand s → level_fault s [] nothing_held words false [] ≡ []
    → fault_of command_line (program ∷ s.name ∷ words) ≡ []
fault_of-line program s words is quiet =
    ap₂ (λ before (w : Walk). or_else before (line_fault w)) (walk_fault-line s words is) (walk-line s words is)
    ∙ line_fault-named s words is quiet

subcommand_of-line : (program : Text) (s : Shape) (words : List Text) → IsSubcommand s
    → subcommand_of command_line (program ∷ s.name ∷ words) ≡ Some (s.name, rows_after s.rules [] words)
subcommand_of-line program s words is =
    ap (λ (w : Walk). entered line w.stopped) (walk-line s words is) ∙ ap (option_map (λ x. rows_at x words)) is.found

-- a subcommand over whose words the walk ends here, with nothing wrong, is this call if what was found then is, and none
-- of the files to read is named by what begins with a hyphen
pub calls-line : (program : Text) (s : Shape) (words : List Text) (end : Walk) (call : Call) → IsSubcommand s
    → Passes s (walk_from nothing_held) words end → end_fault s end.held ≡ []
    → written_call (Some (s.name, finished s.rules end.held)) ≡ Some call → All IsNoFlag (inputs_of call) → Calls (program ∷ s.name ∷ words) call
calls-line program s words end call is passes ended call_is inputs =
    let quiet = fault_of-line program s words is (level_fault-nil s words end passes ended) in
    let rows : rows_after s.rules [] words ≡ finished s.rules end.held = ap (λ (w : Walk). finished s.rules w.held) passes.0 in
    record {
      quiet = quiet;
      whole = whole_where_faultless (program ∷ s.name ∷ words) quiet;
      call_is = ap call_of (subcommand_of-line program s words is ∙ ap (λ x. Some (s.name, x)) rows) ∙ ap (option_map made_call) call_is ∙ ap Some (made_plain call inputs);
    }
