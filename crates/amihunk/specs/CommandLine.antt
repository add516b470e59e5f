-- What the arguments of a command line ask for, as `clap` reads them.
use Rattle.std.specs.Prelude.{◌≡◌, ◌≢◌, ◌⊎◌, ◌||◌, ⊤, ◌∷◌, ◌++◌, Bool, List, [], true, false, codes, find, if◌then◌else◌, is_some, option_map, option_and_then, unwrap_or, Option, Some, None}
use Rattle.std.specs.Str.{bytes_eq}
use Rattle.clap.specs.Takes.{is_given}
use Rattle.clap.specs.Simple.{built}
use Rattle.clap.specs.Values.{bool_text}
use Rattle.clap.specs.Walk.{action_of}
use Rattle.clap.specs.Words.{IsAmong, Kinds, Row, Rule, Shape, Text, all_of, fault_of, first_of, one_of, subcommand_of}
use Rattle.clap.specs.declared.builder.action.ArgAction.{ArgAction}
use Rattle.clap.specs.declared.builder.action.ArgAction.TheVariants.{SetTrue}
use Rattle.clap.specs.declared.error.ErrorKind.{ErrorKind}
use Rattle.clap.specs.declared.error.ErrorKind.TheVariants as error
use Rattle.hunk_image_text.specs.declared.image_form.ImageForm.TheVariants.{Report, SRecords}
use Rattle.hunk_tool.specs.declared.copy.CopyForm.{CopyForm}
use Rattle.hunk_tool.specs.declared.copy.CopyForm.TheVariants.{Normal, Written}
use Rattle.hunk_tool.specs.declared.link_options.LinkOptions.{LinkOptions}
use Rattle.hunk_tool.specs.declared.symbol_form.SymbolForm.TheVariants.{Lines, Records}
use Rattle.hunk_store.specs.Addresses.{AddressSource}
use Rattle.hunk_store.specs.Addresses.AddressSource.{in_file, in_list}
use Rattle.hunk_store.specs.FileList.{NamedList}
use Rattle.hunk_store.specs.declared.file_list.NameEnd.TheVariants.{Line, Zero}
use Rattle.hunk_commands.specs.declared.load.LoadText.{LoadText}
use Rattle.hunk_commands.specs.declared.load.LoadText.TheVariants as load_text
use Rattle.hunk_commands.specs.declared.survey.SurveyOptions.{SurveyOptions}
use Rattle.hunk_commands.specs.declared.text.ShowText.{ShowText}
use Rattle.hunk_commands.specs.declared.text.ShowText.TheVariants as show_text
use Rattle.hunk_commands.specs.declared.request.Request.{Request}
use Rattle.amihunk.specs.Call.{Call, IsFound, Meaning, meaning}
use Rattle.amihunk.specs.Call.Call.{conflict, to_check, to_compare, to_copy, to_image, to_link, to_load, to_names, to_show, to_survey}
use Rattle.amihunk.specs.Call.Meaning.{calls, help, nothing, rejection, version}
use Rattle.amihunk.specs.StandardInput.{made_call}
use Rattle.amihunk.specs.Syntax.{command_line}
use Rattle.amihunk.specs.declared.choices.Shown.{Shown}
use Rattle.amihunk.specs.declared.choices.Shown.TheVariants as shown
use Rattle.amihunk.specs.declared.conflict.Conflict.{Conflict}
use Rattle.amihunk.specs.declared.conflict.Conflict.TheVariants.{TwoAddresses, NoAddresses, NormalAndExplain, NormalAndShort, NormalAndStrip, NormalAndTrim, JsonAndHtml, ContentAlone, ContentAndHtml, NamesAndJson, NamesAndContent, NamesAndHtml, NamesAndExplain, NoFiles, LinesAlone, InputTwice}

-- ---- what was found for the arguments of a subcommand

-- a subcommand's name, and what was found for its arguments
abbrev pub Met : Type 0
Met = Option (Text × List Row)

-- the argument has a value
abbrev pub HasValue : List Row → Text → Type 0
HasValue rows name = is_some (first_of name rows) ≡ true

-- what `clap` reads of the flag is whether it was given
abbrev pub IsFlag : List Row → Text → Type 0
IsFlag rows name = one_of name rows ≡ Some (bool_text (is_given name rows))

abbrev pub is_switch : ArgAction → Bool
is_switch SetTrue = true
is_switch _ = false

-- the fact, where the test holds
abbrev pub Where : Bool → Type 0 → Type 0
Where true Fact = Fact
Where false Fact = ⊤

-- each argument that is required has a value, and each flag is one
abbrev pub AreWhole : List Rule → List Row → Type 0
AreWhole [] rows = ⊤
AreWhole (a ∷ rest) rows = Where a.required (HasValue rows a.id) × Where (is_switch (action_of a)) (IsFlag rows a.id) × AreWhole rest rows

abbrev pub AreWholeFor : Option Shape → List Row → Type 0
AreWholeFor None rows = ⊥
AreWholeFor (Some s) rows = AreWhole s.rules rows

-- the subcommand is one of the program's, with its required values
abbrev pub IsWhole : Met → Type 0
IsWhole None = ⊥
IsWhole (Some (name, rows)) = AreWholeFor (find (λ s. bytes_eq s.name name) (built command_line).subs) rows

-- ---- what a subcommand asks for

-- the value of an argument that has one, and the files
abbrev pub value_in : Text → List Row → Text
value_in name rows = unwrap_or (first_of name rows) []

abbrev pub files_in : List Row → List Text
files_in rows = unwrap_or (all_of (codes "file") rows) []

-- where the addresses are, by the values of `--at` and `--at-file`, of which there must be one
abbrev pub source_by : Option Text → Option Text → Option AddressSource
source_by (Some list) None = Some (in_list list)
source_by None (Some name) = Some (in_file name)
source_by _ _ = None

-- there is one at least
abbrev pub has_some : List Text → Bool
has_some [] = false
has_some (file ∷ rest) = true

-- the list of files that is asked for, by `--files-from` and `--lines`, which goes with it, and by whether there is
-- a FILE: without a list there must be one
abbrev pub list_by : (list : Option Text) (lines has_files : Bool) → Option (Option NamedList)
list_by (Some file) lines has_files = Some (Some (record { file = file; end = if lines then Line else Zero }))
list_by None false true = Some None
list_by None _ _ = None

abbrev pub list_in : List Row → Option (Option NamedList)
list_in rows = list_by (first_of (codes "files-from") rows) (is_given (codes "lines") rows) (has_some (files_in rows))

-- the text that is asked for, by `--srec` and `--symbols`
abbrev pub text_by : (srec symbols : Bool) → LoadText
text_by false false = load_text.Image Report
text_by true false = load_text.Image SRecords
text_by false true = load_text.Symbols Lines
text_by true true = load_text.Symbols Records

abbrev pub load_call : Option AddressSource → LoadText → Bool → Text → Call
load_call (Some source) text explain file = to_load source text explain file
load_call None text explain file = conflict

abbrev pub image_call : Option AddressSource → LoadText → Bool → List Text → Call
image_call (Some source) text explain files = to_image source text explain files
image_call None text explain files = conflict

-- the addresses that the options give
abbrev pub source_in : List Row → Option AddressSource
source_in rows = source_by (first_of (codes "at") rows) (first_of (codes "at-file") rows)

-- how the load file is written
abbrev pub options_in : List Row → LinkOptions
options_in rows = record { strip = is_given (codes "strip") rows; short = is_given (codes "short") rows; trim = is_given (codes "trim") rows }

abbrev pub link_call : Text → Option Text → LinkOptions → (globals explain : Bool) → List Text → Option (Option NamedList) → Call
link_call out map options globals explain files (Some list) = to_link out map options globals explain files list
link_call out map options globals explain files None = conflict

abbrev pub link_in : List Row → Call
link_in rows = link_call (value_in (codes "out") rows) (first_of (codes "map") rows) (options_in rows) (is_given (codes "globals") rows) (is_given (codes "explain") rows)
    (files_in rows) (list_in rows)

-- one of the options is chosen
abbrev pub is_chosen : LinkOptions → Bool
is_chosen options = options.strip || (options.short || options.trim)

-- what is asked of a copy, by `--normal`, the options and `--explain`: with the first goes no other
abbrev pub copy_form_by : (normal : Bool) → LinkOptions → (explain : Bool) → Option CopyForm
copy_form_by false options explain = Some (Written options)
copy_form_by true options explain = if is_chosen options || explain then None else Some Normal

abbrev pub copy_call : Text → Option CopyForm → Bool → Text → Call
copy_call out (Some form) explain file = to_copy out form explain file
copy_call out None explain file = conflict

abbrev pub copy_in : List Row → Call
copy_in rows = copy_call (value_in (codes "out") rows)
    (copy_form_by (is_given (codes "normal") rows) (options_in rows) (is_given (codes "explain") rows))
    (is_given (codes "explain") rows) (value_in (codes "file") rows)

abbrev pub compare_in : List Row → Call
compare_in rows = to_compare (is_given (codes "symbols") rows) (value_in (codes "first") rows) (value_in (codes "second") rows)

abbrev pub load_in : List Row → Call
load_in rows = load_call (source_in rows) (text_by (is_given (codes "srec") rows) (is_given (codes "symbols") rows))
    (is_given (codes "explain") rows) (value_in (codes "file") rows)

abbrev pub image_in : List Row → Call
image_in rows = image_call (source_in rows) (text_by (is_given (codes "srec") rows) (is_given (codes "symbols") rows))
    (is_given (codes "explain") rows) (files_in rows)

-- the text that is asked for, by `--json`, `--content`, which goes with it, and `--html`, which goes with neither
abbrev pub show_text_by : (json content html : Bool) → Option ShowText
show_text_by false false false = Some show_text.Listing
show_text_by true false false = Some show_text.Json
show_text_by true true false = Some show_text.JsonWithContent
show_text_by false false true = Some show_text.Page
show_text_by _ _ _ = None

-- what is asked of `show`, by `--names` and the other flags: with the first goes no other
abbrev pub shown_by : (names json content html explain : Bool) → Option Shown
shown_by false json content html explain = option_map shown.Text (show_text_by json content html)
shown_by true false false false false = Some shown.Names
shown_by true _ _ _ _ = None

-- names are listed of any number of files, and a text is printed of one
abbrev pub show_call : Option Shown → Bool → List Text → Call
show_call (Some (shown.Text text)) explain (file ∷ []) = to_show text explain file
show_call (Some shown.Names) explain files = to_names files
show_call _ explain files = conflict

abbrev pub show_in : List Row → Call
show_in rows = show_call (shown_by (is_given (codes "names") rows) (is_given (codes "json") rows) (is_given (codes "content") rows)
    (is_given (codes "html") rows) (is_given (codes "explain") rows)) (is_given (codes "explain") rows) (files_in rows)

-- what is asked of a survey
abbrev pub survey_options_in : List Row → SurveyOptions
survey_options_in rows = record { json = is_given (codes "json") rows; digest = is_given (codes "digest") rows; wait = is_given (codes "wait") rows }

-- nothing but its lines
abbrev pub no_survey_options : SurveyOptions
no_survey_options = record { json = false; digest = false; wait = false }

abbrev pub survey_call : SurveyOptions → List Text → Option (Option NamedList) → Call
survey_call options files (Some list) = to_survey options files list
survey_call options files None = conflict

abbrev pub survey_in : List Row → Call
survey_in rows = survey_call (survey_options_in rows) (files_in rows) (list_in rows)

-- the names of the subcommands, and what each asks for by what was found for its arguments
abbrev pub subcommands : List (Text × (List Row → Call))
subcommands = (codes "link", link_in) ∷ (codes "load", load_in) ∷ (codes "image", image_in)
    ∷ (codes "check", λ rows. to_check (is_given (codes "lint") rows) (is_given (codes "explain") rows) (value_in (codes "file") rows))
    ∷ (codes "show", show_in) ∷ (codes "survey", survey_in)
    ∷ (codes "copy", copy_in) ∷ (codes "compare", compare_in) ∷ []

-- the call as its arguments are written
abbrev pub written_call : Met → Option Call
written_call = option_and_then (λ met. option_map (λ s. s.1 met.1) (find (λ s. bytes_eq s.0 met.0) subcommands))

-- and as it is made, where `-` is standard input
abbrev pub call_of : Met → Option Call
call_of met = option_map made_call (written_call met)

-- ---- what a request is made of

-- the request is the call as it is written, or rejects a conflict; nothing is said if memory runs out
abbrev pub IsWritten : Met → Request → Type 0
IsWritten met request = IsFound (written_call met) (meaning request)

-- and the same of the call as it is made
abbrev pub Says : Met → Request → Type 0
Says met request = IsFound (call_of met) (meaning request)

-- the kind of error with which `clap` rejects a conflict
abbrev pub conflict_kind : Conflict → ErrorKind
conflict_kind TwoAddresses = error.ArgumentConflict
conflict_kind NormalAndStrip = error.ArgumentConflict
conflict_kind NormalAndShort = error.ArgumentConflict
conflict_kind NormalAndTrim = error.ArgumentConflict
conflict_kind NormalAndExplain = error.ArgumentConflict
conflict_kind JsonAndHtml = error.ArgumentConflict
conflict_kind ContentAndHtml = error.ArgumentConflict
conflict_kind NamesAndJson = error.ArgumentConflict
conflict_kind NamesAndContent = error.ArgumentConflict
conflict_kind NamesAndHtml = error.ArgumentConflict
conflict_kind NamesAndExplain = error.ArgumentConflict
conflict_kind NoAddresses = error.MissingRequiredArgument
conflict_kind ContentAlone = error.MissingRequiredArgument
conflict_kind NoFiles = error.MissingRequiredArgument
conflict_kind LinesAlone = error.MissingRequiredArgument
conflict_kind InputTwice = error.ArgumentConflict

-- the request for arguments that `clap` rejects with this kind of error
abbrev pub IsAnswer : ErrorKind → Meaning → Type 0
IsAnswer k (calls call) = ⊥
IsAnswer k version = k ≡ error.DisplayVersion
IsAnswer k help = k ≡ error.DisplayHelp
IsAnswer k rejection = (k ≢ error.DisplayHelp) × (k ≢ error.DisplayVersion) × (k ≢ error.OutOfMemory)
IsAnswer k nothing = ⊤

abbrev pub Answers : ErrorKind → Request → Type 0
Answers k request = IsAnswer k (meaning request)

-- the arguments are rejected with one of the kinds, and ask for neither help nor the version
pub record IsRefusedBy (kinds : Kinds) : Type 0 where
  pub kind : ErrorKind
  pub among : IsAmong kind kinds
  pub no_help : kind ≢ error.DisplayHelp
  pub no_version : kind ≢ error.DisplayVersion

-- nothing is wrong with the arguments, and this is the call of the subcommand that they name
pub record Calls (words : List Text) (call : Call) : Type 0 where
  pub quiet : fault_of command_line words ≡ []
  pub whole : IsWhole (subcommand_of command_line words)
  pub call_is : call_of (subcommand_of command_line words) ≡ Some call

-- what the arguments ask for: the subcommand that they name if nothing is wrong with them, help or the
-- version if they ask for it, a rejection if something is wrong or there is a conflict; nothing is said if
-- memory runs out
abbrev pub IsMeant : List Text → Meaning → Type 0
IsMeant words (calls call) = Calls words call
IsMeant words version = IsAmong error.DisplayVersion (fault_of command_line words)
IsMeant words help = IsAmong error.DisplayHelp (fault_of command_line words)
IsMeant words rejection = IsRefusedBy (fault_of command_line words) ⊎ Calls words conflict
IsMeant words nothing = ⊤

abbrev pub IsAskedBy : List Text → Request → Type 0
IsAskedBy words request = IsMeant words (meaning request)

-- ---- the plain forms, which do not ask for explanations

-- the argument does not begin with a hyphen (45)
abbrev pub IsNoFlag : Text → Type 0
IsNoFlag [] = ⊤
IsNoFlag (c ∷ rest) = c ≢ 45

-- the argument does not begin with a hyphen, if it is given
abbrev pub IsNoFlagIn : Option Text → Type 0
IsNoFlagIn None = ⊤
IsNoFlagIn (Some text) = IsNoFlag text

-- the word, if it is given
abbrev pub word_if : Bool → Text → List Text
word_if given word = if given then word ∷ [] else []

-- those of the words `--strip`, `--short` and `--trim` that are asked for, in this order
abbrev pub option_words : LinkOptions → List Text
option_words options =
    word_if options.strip (codes "--strip") ++ (word_if options.short (codes "--short") ++ word_if options.trim (codes "--trim"))

-- the words `--map MAP`, if MAP is given
abbrev pub map_words : Option Text → List Text
map_words None = []
map_words (Some map) = codes "--map" ∷ map ∷ []

-- the arguments `PROGRAM link --out OUT [--map MAP] [--strip] [--short] [--trim] FILE...`
abbrev pub link_line : Text → LinkOptions → Text → Option Text → List Text → List Text
link_line program options out map files = program ∷ codes "link" ∷ codes "--out" ∷ out ∷ ((map_words map ++ option_words options) ++ files)

-- the same words, with `-s` for `--strip`
abbrev pub brief_words : LinkOptions → List Text
brief_words options =
    word_if options.strip (codes "-s") ++ (word_if options.short (codes "--short") ++ word_if options.trim (codes "--trim"))

-- the arguments `PROGRAM link -o OUT [--map MAP] [-s] [--short] [--trim] FILE...`
abbrev pub brief_link_line : Text → LinkOptions → Text → Option Text → List Text → List Text
brief_link_line program options out map files = program ∷ codes "link" ∷ codes "-o" ∷ out ∷ ((map_words map ++ brief_words options) ++ files)

-- the word is `--version` or `-V`
abbrev pub IsVersionWord : Text → Type 0
IsVersionWord word = (word ≡ codes "--version") ⊎ (word ≡ codes "-V")

-- the arguments `PROGRAM WORD`
abbrev pub version_line : Text → Text → List Text
version_line program word = program ∷ word ∷ []

-- the words that ask for this text, if there are any
abbrev pub text_words : LoadText → List Text
text_words (load_text.Image Report) = []
text_words (load_text.Image SRecords) = codes "--srec" ∷ []
text_words (load_text.Symbols Lines) = codes "--symbols" ∷ []
text_words (load_text.Symbols Records) = codes "--srec" ∷ codes "--symbols" ∷ []

-- the name and the word of the option that gives these addresses
abbrev pub option_name : AddressSource → Text
option_name (in_list list) = codes "at"
option_name (in_file name) = codes "at-file"

abbrev pub option_word : AddressSource → Text
option_word (in_list list) = codes "--at"
option_word (in_file name) = codes "--at-file"

-- and its value
abbrev pub text_in : AddressSource → Text
text_in (in_list list) = list
text_in (in_file name) = name

-- the arguments `PROGRAM load --at LIST [--srec] [--symbols] FILE`, or with `--at-file FILE`
abbrev pub load_line : Text → AddressSource → LoadText → Text → List Text
load_line program source text file = program ∷ codes "load" ∷ option_word source ∷ text_in source ∷ (text_words text ++ file ∷ [])

-- the arguments `PROGRAM image --at LIST [--srec] [--symbols] FILE...`, or with `--at-file FILE`
abbrev pub image_line : Text → AddressSource → LoadText → List Text → List Text
image_line program source text files = program ∷ codes "image" ∷ option_word source ∷ text_in source ∷ (text_words text ++ files)

-- the arguments `PROGRAM NAME FILE`
abbrev pub file_line : Text → Text → Text → List Text
file_line program name file = program ∷ name ∷ file ∷ []

-- the words that ask for this text, if there are any
abbrev pub show_words : ShowText → List Text
show_words show_text.Listing = []
show_words show_text.Json = codes "--json" ∷ []
show_words show_text.JsonWithContent = codes "--json" ∷ codes "--content" ∷ []
show_words show_text.Page = codes "--html" ∷ []

-- the arguments `PROGRAM show [--json [--content] | --html] FILE`
abbrev pub show_line : Text → ShowText → Text → List Text
show_line program text file = program ∷ codes "show" ∷ (show_words text ++ file ∷ [])

-- the arguments `PROGRAM show --names FILE...`
abbrev pub names_line : Text → List Text → List Text
names_line program files = program ∷ codes "show" ∷ codes "--names" ∷ files

-- the arguments `PROGRAM survey FILE...`
abbrev pub survey_line : Text → List Text → List Text
survey_line program files = program ∷ codes "survey" ∷ files

-- the arguments `PROGRAM copy --out OUT [--strip] [--short] [--trim] FILE`
abbrev pub copy_line : Text → LinkOptions → Text → Text → List Text
copy_line program options out file = program ∷ codes "copy" ∷ codes "--out" ∷ out ∷ (option_words options ++ file ∷ [])

-- the arguments `PROGRAM copy --out OUT --normal FILE`
abbrev pub normal_line : Text → Text → Text → List Text
normal_line program out file = program ∷ codes "copy" ∷ codes "--out" ∷ out ∷ codes "--normal" ∷ file ∷ []

-- the arguments `PROGRAM compare [--symbols] A B`
abbrev pub compare_line : Text → Bool → Text → Text → List Text
compare_line program with_symbols first second = program ∷ codes "compare" ∷ (word_if with_symbols (codes "--symbols") ++ first ∷ second ∷ [])

-- ---- words that are refused

-- the words after the name of the program are one of these: none; `link` without `--out`; `load` without addresses;
-- `load` of two files
abbrev pub AreRefused : List Text → Type 0
AreRefused words =
    (words ≡ [])
    ⊎ ((words ≡ codes "link" ∷ codes "main.o" ∷ [])
    ⊎ ((words ≡ codes "load" ∷ codes "main" ∷ [])
    ⊎ (words ≡ codes "load" ∷ codes "--at" ∷ codes "10000" ∷ codes "main" ∷ codes "other" ∷ [])))
