-- The arguments of a command line, some of which may be bytes that are no text.
use Rattle.std.specs.Prelude.{◌≡◌, ⊤, ◌∷◌, ◌==◌, ◌||◌, ℕ, Bool, true, false, List, [], Option, None, Some, if◌then◌else◌, map, not}
use Rattle.std.specs.Fmt.{decimal}
use Rattle.std.specs.List.{list_all, list_any, slice_get}
use Rattle.std.specs.Str.{IsUtf8, bytes_eq}
use Rattle.std.specs.String.{string_bytes}
use Rattle.clap.specs.Words.{Text}
use Rattle.hunk_store.specs.FileList.{NamedList}
use Rattle.hunk_commands.specs.declared.request.Request.{Request}
use Rattle.amihunk.specs.Call.{Call, Meaning, meaning}
use Rattle.amihunk.specs.Call.Call.{to_survey}
use Rattle.amihunk.specs.Call.Meaning.{calls, nothing, rejection}
use Rattle.amihunk.specs.CommandLine.{IsAskedBy, IsMeant}
use Rattle.amihunk.specs.declared.arguments.Argument.{Argument}
use Rattle.amihunk.specs.declared.arguments.Argument.TheVariants as argument

-- ---- one argument

-- the word that stands for the argument with this index where that is no text: a zero byte, which no argument of a
-- system has, and the index in decimal
abbrev pub stand_in : ℕ → Text
stand_in index = 0 ∷ decimal index

-- the word as which the argument is parsed
abbrev pub word_of : Argument → Text
word_of (argument.Text text) = string_bytes text
word_of (argument.Bytes bytes word) = string_bytes word

abbrev pub is_text : Argument → Bool
is_text (argument.Text text) = true
is_text (argument.Bytes bytes word) = false

-- the argument at this index is a text, or is none and has its word
abbrev pub IsArgument : ℕ → Argument → Type 0
IsArgument index (argument.Text text) = ⊤
IsArgument index (argument.Bytes bytes word) = (IsUtf8 bytes.items → ⊥) × (string_bytes word ≡ stand_in index)

-- each of the arguments is so at its index
abbrev pub AreArguments : List Argument → Type 0
AreArguments arguments = (index : ℕ) (it : Argument) → slice_get arguments index ≡ Some it → IsArgument index it

-- ---- what a word means

-- the argument is no text, and these are its bytes
abbrev pub HasBytes : Option Argument → Text → Type 0
HasBytes (Some (argument.Bytes bytes word)) own = bytes.items ≡ own
HasBytes _ own = ⊥

-- the bytes of the argument, if it is no text and is parsed as this word, and else those of the word
abbrev pub own_bytes : Argument → Text → Text
own_bytes (argument.Text text) word = word
own_bytes (argument.Bytes bytes own) word = if bytes_eq (string_bytes own) word then bytes.items else word

-- the bytes that a word means among these arguments: those of the argument for which it stands, or else its own
pub record IsMeantBy (arguments : List Argument) (word bytes : Text) : Type 0 where
  pub stands : (index : ℕ) (own : Text) → word ≡ stand_in index → HasBytes (slice_get arguments index) own → bytes ≡ own
  pub other : ((index : ℕ) (own : Text) → word ≡ stand_in index → HasBytes (slice_get arguments index) own → ⊥) → bytes ≡ word

-- the bytes that some words mean, in the same order
abbrev pub AreMeantBy : List Argument → (words files : List Text) → Type 0
AreMeantBy arguments [] [] = ⊤
AreMeantBy arguments (word ∷ words) (file ∷ files) = IsMeantBy arguments word file × AreMeantBy arguments words files
AreMeantBy arguments _ _ = ⊥

-- ---- what is asked for where an argument is no text

abbrev pub begins_with : ℕ → Text → Bool
begins_with byte [] = false
begins_with byte (first ∷ rest) = first == byte

-- the argument is no text, and begins with a hyphen (45)
abbrev pub is_strange_option : Argument → Bool
is_strange_option (argument.Text text) = false
is_strange_option (argument.Bytes bytes word) = begins_with 45 bytes.items

-- the list of files is a word that stands for an argument
abbrev pub is_strange_list : Option NamedList → Bool
is_strange_list None = false
is_strange_list (Some list) = begins_with 0 list.file

-- a survey is made of arguments that are no text if they are files alone
abbrev pub may_survey : List Argument → Option NamedList → Bool
may_survey arguments list = not (list_any is_strange_option arguments || is_strange_list list)

-- the call is the survey that the words ask for, with the bytes that its files mean
abbrev pub IsSurveyOf : List Argument → (by_words : Meaning) → Call → Type 0
IsSurveyOf arguments (calls (to_survey options words list)) (to_survey own_options files own_list) =
    (may_survey arguments list ≡ true) × (own_options ≡ options) × AreMeantBy arguments words files × (own_list ≡ list)
IsSurveyOf arguments _ _ = ⊥

-- the words ask for none that may be made
abbrev pub IsNoSurvey : List Argument → (by_words : Meaning) → Type 0
IsNoSurvey arguments (calls (to_survey options words list)) = may_survey arguments list ≡ false
IsNoSurvey arguments _ = ⊤

-- what is asked of the arguments, by what their words ask for: a survey, or else a rejection
abbrev pub IsAskedOf : List Argument → (by_words asked : Meaning) → Type 0
IsAskedOf arguments by_words (calls call) = IsSurveyOf arguments by_words call
IsAskedOf arguments by_words rejection = IsNoSurvey arguments by_words
IsAskedOf arguments by_words nothing = ⊤
IsAskedOf arguments by_words _ = ⊥

pub record IsAskedInBytes (arguments : List Argument) (request : Request) : Type 0 where
  pub by_words : Meaning
  pub meant : IsMeant (map word_of arguments) by_words
  pub asked : IsAskedOf arguments by_words (meaning request)

-- what is asked of arguments: what their words ask for, if all of them are texts
abbrev pub IsAskedWhere : (all_text : Bool) → List Argument → Request → Type 0
IsAskedWhere true arguments request = IsAskedBy (map word_of arguments) request
IsAskedWhere false arguments request = IsAskedInBytes arguments request

abbrev pub IsAskedByAll : List Argument → Request → Type 0
IsAskedByAll arguments = IsAskedWhere (list_all is_text arguments) arguments
