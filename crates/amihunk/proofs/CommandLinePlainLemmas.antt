-- The plain forms of the subcommands, and what they ask for.
use Rattle.std.proofs.Common.{◌≤◌, ◌<◌, All, arith, refl, Bool, true, false, List, [], ◌∷◌, ◌++◌, codes, length, None, Option, Some}
use Rattle.std.proofs.lemmas.List.Elements.{All-cons, All-nil}
use Rattle.clap.specs.Lexer.{usize_max}
use Rattle.clap.specs.Words.{Shape, Text}
use Rattle.clap.specs.Walk.{Held, nothing_held, walk_from}
use Rattle.clap.proofs.OnLiterals.{clap_on_literals}
use Rattle.hunk_image_text.specs.declared.image_form.ImageForm.TheVariants.{Report, SRecords}
use Rattle.hunk_tool.specs.declared.copy.CopyForm.{CopyForm}
use Rattle.hunk_tool.specs.declared.copy.CopyForm.TheVariants.{Normal, Written}
use Rattle.amihunk.specs.StandardInput.{inputs_of, source_inputs}
use Rattle.hunk_tool.specs.declared.link_options.LinkOptions.{LinkOptions}
use Rattle.hunk_store.specs.Addresses.{AddressSource}
use Rattle.hunk_store.specs.Addresses.AddressSource.{in_file, in_list}
use Rattle.hunk_commands.specs.declared.load.LoadText.{LoadText}
use Rattle.hunk_commands.specs.declared.load.LoadText.TheVariants.{Image, Symbols}
use Rattle.hunk_tool.specs.declared.symbol_form.SymbolForm.TheVariants.{Lines, Records}
use Rattle.hunk_commands.specs.declared.text.ShowText.{ShowText}
use Rattle.hunk_commands.specs.declared.text.ShowText.TheVariants.{Json, JsonWithContent, Listing, Page}
use Rattle.amihunk.proofs.CommandLineLemmas.{built_below}
use Rattle.amihunk.proofs.CommandLineFilesLemmas.{TakesFile, TakesFiles, TakesTwo, calls-file, calls-files, calls-two}
use Rattle.amihunk.proofs.CommandLineSubcommandLemmas.{IsSubcommand}
use Rattle.amihunk.proofs.CommandLineWalkLemmas.{IsOption, Passes, passes-nil, passes-option, value_held, walk_on}
use Rattle.amihunk.specs.Syntax.{check_shape, compare_shape, copy_shape, image_shape, letter_o, link_shape, load_shape, show_shape, survey_shape}
use Rattle.amihunk.specs.CommandLine.{Calls, IsNoFlag, IsNoFlagIn, brief_link_line, brief_words, compare_line, copy_line, file_line, image_line, link_line, load_line, map_words, no_survey_options}
use Rattle.amihunk.specs.CommandLine.{names_line, normal_line, option_name, option_word, option_words, show_call, show_line, show_words, survey_line, text_in, text_words, word_if}
use Rattle.amihunk.specs.declared.choices.Shown.{Shown}
use Rattle.amihunk.specs.declared.choices.Shown.TheVariants as shown
use Rattle.amihunk.specs.Call.Call.{to_check, to_compare, to_copy, to_image, to_link, to_load, to_names, to_show, to_survey}

-- ---- `link`

abbrev built_link : Shape
built_link = built_below link_shape

is_link : IsSubcommand built_link
unfolding clap_on_literals
is_link = record { met = refl; quiet = refl; found = refl }

is_out : IsOption built_link nothing_held (codes "--out") (codes "out")
unfolding clap_on_literals
is_out = record { letter = Some letter_o; needed = true; by_id = refl; met = refl; quiet = refl }

is_brief_out : IsOption built_link nothing_held (codes "-o") (codes "out")
unfolding clap_on_literals
is_brief_out = record { letter = Some letter_o; needed = true; by_id = refl; met = refl; quiet = refl }

-- what `--out OUT` leaves
abbrev out_held : Text → Held
out_held = value_held built_link.rules nothing_held (codes "out")

is_map : (out : Text) → IsOption built_link (out_held out) (codes "--map") (codes "map")
unfolding clap_on_literals
is_map out = record { letter = None; needed = false; by_id = refl; met = refl; quiet = refl }

-- and `--map MAP`, if it is given
abbrev map_held : Text → Option Text → Held
map_held out None = out_held out
map_held out (Some map) = value_held built_link.rules (out_held out) (codes "map") map

-- what is held before the files
abbrev link_held : Text → Option Text → LinkOptions → Held
link_held out map options = (walk_on built_link (walk_from (map_held out map)) (option_words options)).held

-- the words for the flags pass, the brief ones too, and files may come after them
abbrev IsPlainLink : Text → Option Text → LinkOptions → Type 0
IsPlainLink out map options = Passes built_link (walk_from (map_held out map)) (option_words options) (walk_from (link_held out map options))
    × Passes built_link (walk_from (map_held out map)) (brief_words options) (walk_from (link_held out map options))
    × TakesFiles built_link (link_held out map options) (λ files. to_link out map options false false files None)

abbrev choice : Bool → Bool → Bool → LinkOptions
choice strip short trim = record { strip = strip; short = short; trim = trim }

plain-choice : (out : Text) (map : Option Text) (strip short trim : Bool) → IsPlainLink out map (choice strip short trim)
unfolding clap_on_literals
plain-choice out None true true true = ((refl, refl), (refl, refl), (record { other = refl; quiet = refl; late = λ file rest. refl }, λ file rest. refl))
plain-choice out None true true false = ((refl, refl), (refl, refl), (record { other = refl; quiet = refl; late = λ file rest. refl }, λ file rest. refl))
plain-choice out None true false true = ((refl, refl), (refl, refl), (record { other = refl; quiet = refl; late = λ file rest. refl }, λ file rest. refl))
plain-choice out None true false false = ((refl, refl), (refl, refl), (record { other = refl; quiet = refl; late = λ file rest. refl }, λ file rest. refl))
plain-choice out None false true true = ((refl, refl), (refl, refl), (record { other = refl; quiet = refl; late = λ file rest. refl }, λ file rest. refl))
plain-choice out None false true false = ((refl, refl), (refl, refl), (record { other = refl; quiet = refl; late = λ file rest. refl }, λ file rest. refl))
plain-choice out None false false true = ((refl, refl), (refl, refl), (record { other = refl; quiet = refl; late = λ file rest. refl }, λ file rest. refl))
plain-choice out None false false false = ((refl, refl), (refl, refl), (record { other = refl; quiet = refl; late = λ file rest. refl }, λ file rest. refl))
plain-choice out (Some map) true true true = ((refl, refl), (refl, refl), (record { other = refl; quiet = refl; late = λ file rest. refl }, λ file rest. refl))
plain-choice out (Some map) true true false = ((refl, refl), (refl, refl), (record { other = refl; quiet = refl; late = λ file rest. refl }, λ file rest. refl))
plain-choice out (Some map) true false true = ((refl, refl), (refl, refl), (record { other = refl; quiet = refl; late = λ file rest. refl }, λ file rest. refl))
plain-choice out (Some map) true false false = ((refl, refl), (refl, refl), (record { other = refl; quiet = refl; late = λ file rest. refl }, λ file rest. refl))
plain-choice out (Some map) false true true = ((refl, refl), (refl, refl), (record { other = refl; quiet = refl; late = λ file rest. refl }, λ file rest. refl))
plain-choice out (Some map) false true false = ((refl, refl), (refl, refl), (record { other = refl; quiet = refl; late = λ file rest. refl }, λ file rest. refl))
plain-choice out (Some map) false false true = ((refl, refl), (refl, refl), (record { other = refl; quiet = refl; late = λ file rest. refl }, λ file rest. refl))
plain-choice out (Some map) false false false = ((refl, refl), (refl, refl), (record { other = refl; quiet = refl; late = λ file rest. refl }, λ file rest. refl))

plain-link : (out : Text) (map : Option Text) (options : LinkOptions) → IsPlainLink out map options
plain-link out map options = plain-choice out map options.strip options.short options.trim

-- MAP, if it is given, and the flags
passes-map : (out : Text) (map : Option Text) (words : List Text) (held : Held) → IsNoFlagIn map → Passes built_link (walk_from (map_held out map)) words (walk_from held)
    → Passes built_link (walk_from (out_held out)) (map_words map ++ words) (walk_from held)
passes-map out None words held plain passes = passes
passes-map out (Some map) words held plain passes = passes-option built_link (out_held out) (codes "--map") (codes "map") map words (walk_from held) (is_map out) plain passes

module _ (program : Text) (options : LinkOptions) (out : Text) (map : Option Text) (files : List Text)
    (plain_out : IsNoFlag out) (plain_map : IsNoFlagIn map) (some : 0 < length files) (plain_files : All IsNoFlag files) where
  -- an option for OUT, MAP, the flags and the files
  calls-words : (word : Text) (words : List Text) → IsOption built_link nothing_held word (codes "out")
      → Passes built_link (walk_from (map_held out map)) words (walk_from (link_held out map options))
      → length ((word ∷ out ∷ (map_words map ++ words)) ++ files) ≤ usize_max
      → Calls (program ∷ codes "link" ∷ ((word ∷ out ∷ (map_words map ++ words)) ++ files)) (to_link out map options false false files None)
  calls-words word words is passes =
      calls-files program built_link (word ∷ out ∷ (map_words map ++ words)) (link_held out map options) (λ files. to_link out map options false false files None) is_link (record { needed = false; by_index = refl; by_id = refl })
      (passes-option built_link nothing_held word (codes "out") out (map_words map ++ words) (walk_from (link_held out map options)) is plain_out
      (passes-map out map words (link_held out map options) plain_map passes))
      (plain-link out map options).2 files some plain_files plain_files

  pub calls-link : length (link_line program options out map files) ≤ usize_max → Calls (link_line program options out map files) (to_link out map options false false files None)
  calls-link fits = calls-words (codes "--out") (option_words options) is_out (plain-link out map options).0 (omega (arith, fits))

  pub calls-brief : length (brief_link_line program options out map files) ≤ usize_max → Calls (brief_link_line program options out map files) (to_link out map options false false files None)
  calls-brief fits = calls-words (codes "-o") (brief_words options) is_brief_out (plain-link out map options).1 (omega (arith, fits))

-- ---- `load`

abbrev built_load : Shape
built_load = built_below load_shape

is_load : IsSubcommand built_load
unfolding clap_on_literals
is_load = record { met = refl; quiet = refl; found = refl }

is_load_option : (source : AddressSource) → IsOption built_load nothing_held (option_word source) (option_name source)
unfolding clap_on_literals
is_load_option (in_list list) = record { letter = None; needed = false; by_id = refl; met = refl; quiet = refl }
is_load_option (in_file name) = record { letter = None; needed = false; by_id = refl; met = refl; quiet = refl }

-- what `--at LIST` leaves, or `--at-file FILE`
abbrev source_held : Shape → AddressSource → Held
source_held s source = value_held s.rules nothing_held (option_name source) (text_in source)

-- what is held before FILE
abbrev load_held : AddressSource → LoadText → Held
load_held source text = (walk_on built_load (walk_from (source_held built_load source)) (text_words text)).held

-- the words for the text pass, and FILE may come after them
abbrev IsPlainLoad : AddressSource → LoadText → Type 0
IsPlainLoad source text = Passes built_load (walk_from (source_held built_load source)) (text_words text) (walk_from (load_held source text))
    × TakesFile built_load (load_held source text) (to_load source text false)

plain-load : (source : AddressSource) (text : LoadText) → IsPlainLoad source text
unfolding clap_on_literals
plain-load (in_list list) (Image Report) = ((refl, refl), (record { by_index = refl; other = refl; quiet = refl; late = λ file. refl }, λ file. refl))
plain-load (in_list list) (Image SRecords) = ((refl, refl), (record { by_index = refl; other = refl; quiet = refl; late = λ file. refl }, λ file. refl))
plain-load (in_list list) (Symbols Lines) = ((refl, refl), (record { by_index = refl; other = refl; quiet = refl; late = λ file. refl }, λ file. refl))
plain-load (in_list list) (Symbols Records) = ((refl, refl), (record { by_index = refl; other = refl; quiet = refl; late = λ file. refl }, λ file. refl))
plain-load (in_file name) (Image Report) = ((refl, refl), (record { by_index = refl; other = refl; quiet = refl; late = λ file. refl }, λ file. refl))
plain-load (in_file name) (Image SRecords) = ((refl, refl), (record { by_index = refl; other = refl; quiet = refl; late = λ file. refl }, λ file. refl))
plain-load (in_file name) (Symbols Lines) = ((refl, refl), (record { by_index = refl; other = refl; quiet = refl; late = λ file. refl }, λ file. refl))
plain-load (in_file name) (Symbols Records) = ((refl, refl), (record { by_index = refl; other = refl; quiet = refl; late = λ file. refl }, λ file. refl))

-- the files to read do not begin with a hyphen, and neither does that with the addresses
plain_source : (source : AddressSource) (files : List Text) → IsNoFlag (text_in source) → All IsNoFlag files → All IsNoFlag (source_inputs source ++ files)
plain_source (in_list list) files plain rest = rest
plain_source (in_file name) files plain rest = All-cons IsNoFlag name files plain rest

pub calls-load : (program : Text) (source : AddressSource) (text : LoadText) (file : Text) → IsNoFlag (text_in source) → IsNoFlag file
    → Calls (load_line program source text file) (to_load source text false file)
calls-load program source text file plain_value plain_file =
    let plain = plain-load source text in
    calls-file program built_load (option_word source ∷ text_in source ∷ text_words text) (load_held source text) (to_load source text false) is_load
    (passes-option built_load nothing_held (option_word source) (option_name source) (text_in source) (text_words text) (walk_from (load_held source text)) (is_load_option source) plain_value plain.0)
    plain.1 file plain_file (plain_source source (file ∷ []) plain_value (All-cons IsNoFlag file [] plain_file (All-nil IsNoFlag)))

-- ---- `image`

abbrev built_image : Shape
built_image = built_below image_shape

is_image : IsSubcommand built_image
unfolding clap_on_literals
is_image = record { met = refl; quiet = refl; found = refl }

is_image_option : (source : AddressSource) → IsOption built_image nothing_held (option_word source) (option_name source)
unfolding clap_on_literals
is_image_option (in_list list) = record { letter = None; needed = false; by_id = refl; met = refl; quiet = refl }
is_image_option (in_file name) = record { letter = None; needed = false; by_id = refl; met = refl; quiet = refl }

-- what is held before the files
abbrev image_held : AddressSource → LoadText → Held
image_held source text = (walk_on built_image (walk_from (source_held built_image source)) (text_words text)).held

-- the words for the text pass, and files may come after them
abbrev IsPlainImage : AddressSource → LoadText → Type 0
IsPlainImage source text = Passes built_image (walk_from (source_held built_image source)) (text_words text) (walk_from (image_held source text))
    × TakesFiles built_image (image_held source text) (to_image source text false)

plain-image : (source : AddressSource) (text : LoadText) → IsPlainImage source text
unfolding clap_on_literals
plain-image (in_list list) (Image Report) = ((refl, refl), (record { other = refl; quiet = refl; late = λ file rest. refl }, λ file rest. refl))
plain-image (in_list list) (Image SRecords) = ((refl, refl), (record { other = refl; quiet = refl; late = λ file rest. refl }, λ file rest. refl))
plain-image (in_list list) (Symbols Lines) = ((refl, refl), (record { other = refl; quiet = refl; late = λ file rest. refl }, λ file rest. refl))
plain-image (in_list list) (Symbols Records) = ((refl, refl), (record { other = refl; quiet = refl; late = λ file rest. refl }, λ file rest. refl))
plain-image (in_file name) (Image Report) = ((refl, refl), (record { other = refl; quiet = refl; late = λ file rest. refl }, λ file rest. refl))
plain-image (in_file name) (Image SRecords) = ((refl, refl), (record { other = refl; quiet = refl; late = λ file rest. refl }, λ file rest. refl))
plain-image (in_file name) (Symbols Lines) = ((refl, refl), (record { other = refl; quiet = refl; late = λ file rest. refl }, λ file rest. refl))
plain-image (in_file name) (Symbols Records) = ((refl, refl), (record { other = refl; quiet = refl; late = λ file rest. refl }, λ file rest. refl))

pub calls-image : (program : Text) (source : AddressSource) (text : LoadText) (files : List Text) → IsNoFlag (text_in source) → 0 < length files → All IsNoFlag files
    → length (image_line program source text files) ≤ usize_max → Calls (image_line program source text files) (to_image source text false files)
calls-image program source text files plain_value some plain_files fits =
    let plain = plain-image source text in
    calls-files program built_image (option_word source ∷ text_in source ∷ text_words text) (image_held source text) (to_image source text false) is_image (record { needed = true; by_index = refl; by_id = refl })
    (passes-option built_image nothing_held (option_word source) (option_name source) (text_in source) (text_words text) (walk_from (image_held source text)) (is_image_option source) plain_value plain.0)
    plain.1 files some plain_files (plain_source source files plain_value plain_files) (omega (arith, fits))

-- ---- `check`, `show` and `survey`

is_check : IsSubcommand (built_below check_shape)
unfolding clap_on_literals
is_check = record { met = refl; quiet = refl; found = refl }

takes-check : TakesFile (built_below check_shape) nothing_held (to_check false false)
unfolding clap_on_literals
takes-check = (record { by_index = refl; other = refl; quiet = refl; late = λ file. refl }, λ file. refl)

pub calls-check : (program file : Text) → IsNoFlag file → Calls (file_line program (codes "check") file) (to_check false false file)
calls-check program file plain =
    calls-file program (built_below check_shape) [] nothing_held (to_check false false) is_check (passes-nil (built_below check_shape) (walk_from nothing_held)) takes-check file plain
    (All-cons IsNoFlag file [] plain (All-nil IsNoFlag))

is_show : IsSubcommand (built_below show_shape)
unfolding clap_on_literals
is_show = record { met = refl; quiet = refl; found = refl }

-- what is held before the files, after these words
abbrev shown_held : List Text → Held
shown_held words = (walk_on (built_below show_shape) (walk_from nothing_held) words).held

-- these words pass, and files may come after them, which are what this asks for
abbrev IsPlainShown : List Text → Shown → Type 0
IsPlainShown words asked = Passes (built_below show_shape) (walk_from nothing_held) words (walk_from (shown_held words))
    × TakesFiles (built_below show_shape) (shown_held words) (show_call (Some asked) false)

plain-show : (text : ShowText) → IsPlainShown (show_words text) (shown.Text text)
unfolding clap_on_literals
plain-show Listing = ((refl, refl), (record { other = refl; quiet = refl; late = λ file rest. refl }, λ file rest. refl))
plain-show Json = ((refl, refl), (record { other = refl; quiet = refl; late = λ file rest. refl }, λ file rest. refl))
plain-show JsonWithContent = ((refl, refl), (record { other = refl; quiet = refl; late = λ file rest. refl }, λ file rest. refl))
plain-show Page = ((refl, refl), (record { other = refl; quiet = refl; late = λ file rest. refl }, λ file rest. refl))

plain-names : IsPlainShown (codes "--names" ∷ []) shown.Names
unfolding clap_on_literals
plain-names = ((refl, refl), (record { other = refl; quiet = refl; late = λ file rest. refl }, λ file rest. refl))

calls-shown : (program : Text) (words : List Text) (asked : Shown) → IsPlainShown words asked → (files : List Text) → 0 < length files → All IsNoFlag files
    → All IsNoFlag (inputs_of (show_call (Some asked) false files))
    → length (words ++ files) ≤ usize_max → Calls (program ∷ codes "show" ∷ (words ++ files)) (show_call (Some asked) false files)
calls-shown program words asked plain files some plain_files inputs fits =
    calls-files program (built_below show_shape) words (shown_held words) (show_call (Some asked) false) is_show (record { needed = true; by_index = refl; by_id = refl }) plain.0 plain.1 files some plain_files inputs fits

pub calls-show : (program : Text) (text : ShowText) (file : Text) → IsNoFlag file → length (show_line program text file) ≤ usize_max → Calls (show_line program text file) (to_show text false file)
calls-show program text file plain fits =
    let one = All-cons IsNoFlag file [] plain (All-nil IsNoFlag) in
    calls-shown program (show_words text) (shown.Text text) (plain-show text) (file ∷ []) (omega arith) one one (omega (arith, fits))

pub calls-names : (program : Text) (files : List Text) → 0 < length files → All IsNoFlag files → length (names_line program files) ≤ usize_max → Calls (names_line program files) (to_names files)
calls-names program files some plain fits = calls-shown program (codes "--names" ∷ []) shown.Names plain-names files some plain plain (omega (arith, fits))

is_survey : IsSubcommand (built_below survey_shape)
unfolding clap_on_literals
is_survey = record { met = refl; quiet = refl; found = refl }

takes-survey : TakesFiles (built_below survey_shape) nothing_held (λ files. to_survey no_survey_options files None)
unfolding clap_on_literals
takes-survey = (record { other = refl; quiet = refl; late = λ file rest. refl }, λ file rest. refl)

pub calls-survey : (program : Text) (files : List Text) → 0 < length files → All IsNoFlag files → length (survey_line program files) ≤ usize_max → Calls (survey_line program files) (to_survey no_survey_options files None)
calls-survey program files some plain fits =
    calls-files program (built_below survey_shape) [] nothing_held (λ names. to_survey no_survey_options names None) is_survey (record { needed = false; by_index = refl; by_id = refl })
    (passes-nil (built_below survey_shape) (walk_from nothing_held)) takes-survey files some plain plain (omega (arith, fits))

-- ---- `copy`

abbrev built_copy : Shape
built_copy = built_below copy_shape

is_copy : IsSubcommand built_copy
unfolding clap_on_literals
is_copy = record { met = refl; quiet = refl; found = refl }

is_copy_out : IsOption built_copy nothing_held (codes "--out") (codes "out")
unfolding clap_on_literals
is_copy_out = record { letter = Some letter_o; needed = true; by_id = refl; met = refl; quiet = refl }

-- what `--out OUT` leaves
abbrev copy_out_held : Text → Held
copy_out_held = value_held built_copy.rules nothing_held (codes "out")

-- what is held before FILE, after these words
abbrev copy_held : Text → List Text → Held
copy_held out words = (walk_on built_copy (walk_from (copy_out_held out)) words).held

-- the words for the flags pass, and FILE may come after them, for this call
abbrev IsPlainCopy : Text → List Text → CopyForm → Type 0
IsPlainCopy out words form =
    Passes built_copy (walk_from (copy_out_held out)) words (walk_from (copy_held out words)) × TakesFile built_copy (copy_held out words) (to_copy out form false)

plain-copy-choice : (out : Text) (strip short trim : Bool) → IsPlainCopy out (option_words (choice strip short trim)) (Written (choice strip short trim))
unfolding clap_on_literals
plain-copy-choice out true true true = ((refl, refl), (record { by_index = refl; other = refl; quiet = refl; late = λ file. refl }, λ file. refl))
plain-copy-choice out true true false = ((refl, refl), (record { by_index = refl; other = refl; quiet = refl; late = λ file. refl }, λ file. refl))
plain-copy-choice out true false true = ((refl, refl), (record { by_index = refl; other = refl; quiet = refl; late = λ file. refl }, λ file. refl))
plain-copy-choice out true false false = ((refl, refl), (record { by_index = refl; other = refl; quiet = refl; late = λ file. refl }, λ file. refl))
plain-copy-choice out false true true = ((refl, refl), (record { by_index = refl; other = refl; quiet = refl; late = λ file. refl }, λ file. refl))
plain-copy-choice out false true false = ((refl, refl), (record { by_index = refl; other = refl; quiet = refl; late = λ file. refl }, λ file. refl))
plain-copy-choice out false false true = ((refl, refl), (record { by_index = refl; other = refl; quiet = refl; late = λ file. refl }, λ file. refl))
plain-copy-choice out false false false = ((refl, refl), (record { by_index = refl; other = refl; quiet = refl; late = λ file. refl }, λ file. refl))

plain-normal : (out : Text) → IsPlainCopy out (codes "--normal" ∷ []) Normal
unfolding clap_on_literals
plain-normal out = ((refl, refl), (record { by_index = refl; other = refl; quiet = refl; late = λ file. refl }, λ file. refl))

module _ (program out file : Text) (plain_out : IsNoFlag out) (plain_file : IsNoFlag file) where
  calls-copy-words : (words : List Text) (form : CopyForm) → IsPlainCopy out words form → Calls (program ∷ codes "copy" ∷ ((codes "--out" ∷ out ∷ words) ++ file ∷ [])) (to_copy out form false file)
  calls-copy-words words form is =
      calls-file program built_copy (codes "--out" ∷ out ∷ words) (copy_held out words) (to_copy out form false) is_copy
      (passes-option built_copy nothing_held (codes "--out") (codes "out") out words (walk_from (copy_held out words)) is_copy_out plain_out is.0)
      is.1 file plain_file (All-cons IsNoFlag file [] plain_file (All-nil IsNoFlag))

pub calls-copy : (program : Text) (options : LinkOptions) (out file : Text) → IsNoFlag out → IsNoFlag file → Calls (copy_line program options out file) (to_copy out (Written options) false file)
calls-copy program options out file plain_out plain =
    calls-copy-words program out file plain_out plain (option_words options) (Written options) (plain-copy-choice out options.strip options.short options.trim)

pub calls-normal : (program out file : Text) → IsNoFlag out → IsNoFlag file → Calls (normal_line program out file) (to_copy out Normal false file)
calls-normal program out file plain_out plain =
    calls-copy-words program out file plain_out plain (codes "--normal" ∷ []) Normal (plain-normal out)

-- ---- `compare`

is_compare : IsSubcommand (built_below compare_shape)
unfolding clap_on_literals
is_compare = record { met = refl; quiet = refl; found = refl }

-- what is held before A and B
abbrev compare_held : Bool → Held
compare_held with_symbols = (walk_on (built_below compare_shape) (walk_from nothing_held) (word_if with_symbols (codes "--symbols"))).held

passes-symbols : (with_symbols : Bool)
    → Passes (built_below compare_shape) (walk_from nothing_held) (word_if with_symbols (codes "--symbols")) (walk_from (compare_held with_symbols))
unfolding clap_on_literals
passes-symbols true = (refl, refl)
passes-symbols false = (refl, refl)

takes-compare : (with_symbols : Bool) → TakesTwo (built_below compare_shape) (compare_held with_symbols) (codes "first") (codes "second") (to_compare with_symbols)
unfolding clap_on_literals
takes-compare true = record {
  first = record { by_index = refl; other = refl; quiet = refl };
  second = λ value. record { by_index = refl; other = refl; quiet = refl };
  late = λ first second. refl;
  call_is = λ first second. refl;
}
takes-compare false = record {
  first = record { by_index = refl; other = refl; quiet = refl };
  second = λ value. record { by_index = refl; other = refl; quiet = refl };
  late = λ first second. refl;
  call_is = λ first second. refl;
}

pub calls-compare : (program : Text) (with_symbols : Bool) (first second : Text) → IsNoFlag first → IsNoFlag second
    → Calls (compare_line program with_symbols first second) (to_compare with_symbols first second)
calls-compare program with_symbols first second plain_first plain_second =
    calls-two program (built_below compare_shape) (word_if with_symbols (codes "--symbols")) (compare_held with_symbols) (codes "first") (codes "second") (to_compare with_symbols) is_compare
    (passes-symbols with_symbols) (takes-compare with_symbols) first second plain_first plain_second
    (All-cons IsNoFlag first (second ∷ []) plain_first (All-cons IsNoFlag second [] plain_second (All-nil IsNoFlag)))
