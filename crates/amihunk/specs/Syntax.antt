-- The command line that the program accepts, as `clap` is told of it.
use Rattle.std.specs.Prelude.{◌≡◌, ⊤, ◌∷◌, ℕ, Bool, List, [], true, false, codes, Some}
use Rattle.clap.specs.Lexer.{usize_max}
use Rattle.clap.specs.Words.{App, Rule, Shape, Text, new_app, new_rule, with_rule, with_subcommand}
use Rattle.clap.specs.declared.builder.arg.Arg.{Arg}
use Rattle.clap.specs.declared.builder.action.ArgAction.TheVariants.{SetTrue}

-- none of the arguments is one that the subcommands of the command have too
abbrev pub AreLocal : List Arg → Type 0
AreLocal [] = ⊤
AreLocal (a ∷ rest) = (a.global ≡ false) × AreLocal rest

-- the program with these arguments as well, in this order
abbrev pub with_rules : App → List Rule → App
with_rules app [] = app
with_rules app (r ∷ rest) = with_rules (with_rule app r) rest

-- `--NAME VALUE`
abbrev pub option_rule : Text → Rule
option_rule name = record (new_rule name) { long = Some name; value_names = 1 }

-- the same argument, which is required
abbrev pub required_rule : Rule → Rule
required_rule rule = record rule { required = true }

-- the flag `--NAME`
abbrev pub flag_rule : Text → Rule
flag_rule name = record (new_rule name) { long = Some name; action = Some SetTrue }

-- the same option or flag, with a letter for its name
abbrev pub with_letter : ℕ → Rule → Rule
with_letter letter rule = record rule { short = Some letter }

-- the letters `o` and `s`
abbrev pub letter_o : ℕ
letter_o = 111

abbrev pub letter_s : ℕ
letter_s = 115

-- `--out OUT`, which is required, or `-o OUT`
abbrev pub out_rule : Rule
out_rule = required_rule (with_letter letter_o (option_rule (codes "out")))

-- an argument with this name, which is required
abbrev pub value_rule : Text → Rule
value_rule name = record (new_rule name) { value_names = 1; required = true }

-- `FILE`, which is required
abbrev pub file_rule : Rule
file_rule = value_rule (codes "file")

-- `FILE...`, at least one of which is required if this is set
abbrev pub files_rule_if : Bool → Rule
files_rule_if needed = record (new_rule (codes "file")) { value_names = 1; required = needed; range = Some (record { start_inclusive = 1; end_inclusive = usize_max }) }

-- `FILE...`, at least one of which is required
abbrev pub files_rule : Rule
files_rule = files_rule_if true

-- `--explain`
abbrev pub explain_rule : Rule
explain_rule = flag_rule (codes "explain")

-- `--out OUT [--map MAP]`
abbrev pub given_outputs : App → App
given_outputs app = with_rule (with_rule app out_rule) (option_rule (codes "map"))

-- `[--strip] [--short] [--trim]`, where `-s` is `--strip`
abbrev pub given_flags : App → App
given_flags app = with_rule (with_rule (with_rule app (with_letter letter_s (flag_rule (codes "strip"))))
    (flag_rule (codes "short"))) (flag_rule (codes "trim"))

-- `[--files-from LIST] [--lines] [FILE...]`
abbrev pub given_files : App → App
given_files app = with_rule (with_rule (with_rule app (option_rule (codes "files-from"))) (flag_rule (codes "lines"))) (files_rule_if false)

-- `link --out OUT [--map MAP] [--strip] [--short] [--trim] [--globals] [--explain] [--files-from LIST] [--lines]
-- [FILE...]`, where `-o` is `--out`
abbrev pub link_shape : Shape
link_shape =
    (given_files (with_rule (with_rule (given_flags (given_outputs (new_app (codes "link")))) (flag_rule (codes "globals"))) explain_rule)).top

-- the options by which addresses are given
abbrev pub given_addresses : App → App
given_addresses app = with_rule (with_rule app (option_rule (codes "at"))) (option_rule (codes "at-file"))

-- `[--srec] [--symbols]`
abbrev pub given_texts : App → App
given_texts app = with_rule (with_rule app (flag_rule (codes "srec"))) (flag_rule (codes "symbols"))

-- `load [--at LIST] [--at-file FILE] [--srec] [--symbols] [--explain] FILE`
abbrev pub load_shape : Shape
load_shape = (with_rule (with_rule (given_texts (given_addresses (new_app (codes "load")))) explain_rule) file_rule).top

-- `image [--at LIST] [--at-file FILE] [--srec] [--symbols] [--explain] FILE...`
abbrev pub image_shape : Shape
image_shape = (with_rule (with_rule (given_texts (given_addresses (new_app (codes "image")))) explain_rule) files_rule).top

-- `check [--lint] [--explain] FILE`
abbrev pub check_shape : Shape
check_shape = (with_rule (with_rule (with_rule (new_app (codes "check")) (flag_rule (codes "lint"))) explain_rule) file_rule).top

-- `[--json] [--content] [--html] [--names]`
abbrev pub given_shown : App → App
given_shown app = with_rule (with_rule (with_rule (with_rule app (flag_rule (codes "json"))) (flag_rule (codes "content")))
    (flag_rule (codes "html"))) (flag_rule (codes "names"))

-- `show [--json] [--content] [--html] [--names] [--explain] FILE...`
abbrev pub show_shape : Shape
show_shape = (with_rule (with_rule (given_shown (new_app (codes "show"))) explain_rule) files_rule).top

-- the program, which has a version, requires a subcommand, and has none called `help`
abbrev pub bare_app : App
bare_app = record { top = record (new_app (codes "amihunk")).top { has_version = true; subcommand_required = true; disable_help_subcommand = true }; subs = [] }

-- `[--json] [--digest] [--wait]`
abbrev pub given_survey : App → App
given_survey app = with_rule (with_rule (with_rule app (flag_rule (codes "json"))) (flag_rule (codes "digest"))) (flag_rule (codes "wait"))

-- `survey [--json] [--digest] [--wait] [--files-from LIST] [--lines] [FILE...]`
abbrev pub survey_shape : Shape
survey_shape = (given_files (given_survey (new_app (codes "survey")))).top

-- `[--strip] [--short] [--trim] [--normal]`
abbrev pub given_forms : App → App
given_forms app = with_rule (given_flags app) (flag_rule (codes "normal"))

-- `copy --out OUT [--strip] [--short] [--trim] [--normal] [--explain] FILE`, where `-o` is `--out`
abbrev pub copy_shape : Shape
copy_shape = (with_rule (with_rule (given_forms (with_rule (new_app (codes "copy")) out_rule)) explain_rule) file_rule).top

-- `compare [--symbols] A B`
abbrev pub compare_shape : Shape
compare_shape = (with_rule (with_rule (with_rule
    (new_app (codes "compare")) (flag_rule (codes "symbols"))) (value_rule (codes "first"))) (value_rule (codes "second"))).top

-- the command line that the program accepts; of `--at` and `--at-file` it wants one, `--normal` and `--html`
-- stand alone, `--content` goes with `--json` and `--lines` with `--files-from`, and without the latter there is a
-- FILE, which no rule of `clap` says
abbrev pub command_line : App
command_line = with_subcommand (with_subcommand (with_subcommand (with_subcommand (with_subcommand (with_subcommand (with_subcommand (with_subcommand
    bare_app link_shape) load_shape) image_shape) check_shape) show_shape) survey_shape) copy_shape) compare_shape
