-- Standard input, which the argument `-` names where a file to read is expected.
use Rattle.std.specs.Prelude.{◌≡◌, ◌++◌, ◌∷◌, Bool, List, [], Option, None, Some, codes, false, filter, if◌then◌else◌, length, map, nat_lt, option_map}
use Rattle.std.specs.Str.{bytes_eq}
use Rattle.clap.specs.Words.{Text}
use Rattle.hunk_store.specs.Addresses.{AddressSource}
use Rattle.hunk_store.specs.Addresses.AddressSource.{in_file, in_list}
use Rattle.hunk_store.specs.FileList.{NamedList}
use Rattle.amihunk.specs.Call.{Call, IsFound, Meaning}
use Rattle.amihunk.specs.Call.Call.{conflict, to_check, to_compare, to_copy, to_image, to_link, to_load, to_names, to_show, to_survey}
use Rattle.amihunk.specs.Call.Meaning.{calls}

-- ---- one argument

abbrev pub is_hyphen : Text → Bool
is_hyphen argument = bytes_eq argument (codes "-")

-- the name of the file that the argument stands for
abbrev pub input_name : Text → Text
input_name argument = if is_hyphen argument then codes "/dev/stdin" else argument

-- and of those that are given as a list of files, or as a file of addresses
abbrev pub input_list : NamedList → NamedList
input_list list = record list { file = input_name list.file }

abbrev pub input_source : AddressSource → AddressSource
input_source (in_list list) = in_list list
input_source (in_file name) = in_file (input_name name)

-- ---- a call

-- one argument, if it is given
abbrev pub one_inputs : Option Text → List Text
one_inputs None = []
one_inputs (Some argument) = argument ∷ []

abbrev pub list_inputs : Option NamedList → List Text
list_inputs None = []
list_inputs (Some list) = list.file ∷ []

abbrev pub source_inputs : AddressSource → List Text
source_inputs (in_list list) = []
source_inputs (in_file name) = name ∷ []

-- the arguments of the call that stand for files to read
abbrev pub inputs_of : Call → List Text
inputs_of (to_link out map options globals explain files list) = list_inputs list ++ files
inputs_of (to_load source text explain file) = source_inputs source ++ file ∷ []
inputs_of (to_image source text explain files) = source_inputs source ++ files
inputs_of (to_check lint explain file) = file ∷ []
inputs_of (to_show text explain file) = file ∷ []
inputs_of (to_names files) = files
inputs_of (to_survey options files list) = list_inputs list ++ files
inputs_of (to_copy out form explain file) = file ∷ []
inputs_of (to_compare with_symbols first second) = first ∷ second ∷ []
inputs_of conflict = []

-- the call with the names of these files in place of the arguments
abbrev pub named_call : Call → Call
named_call (to_link out map_file options globals explain files list) = to_link out map_file options globals explain (map input_name files) (option_map input_list list)
named_call (to_load source text explain file) = to_load (input_source source) text explain (input_name file)
named_call (to_image source text explain files) = to_image (input_source source) text explain (map input_name files)
named_call (to_check lint explain file) = to_check lint explain (input_name file)
named_call (to_show text explain file) = to_show text explain (input_name file)
named_call (to_names files) = to_names (map input_name files)
named_call (to_survey options files list) = to_survey options (map input_name files) (option_map input_list list)
named_call (to_copy out form explain file) = to_copy out form explain (input_name file)
named_call (to_compare with_symbols first second) = to_compare with_symbols (input_name first) (input_name second)
named_call conflict = conflict

-- two or more of the arguments are `-`
abbrev pub has_hyphens : List Text → Bool
has_hyphens arguments = nat_lt 1 (length (filter is_hyphen arguments))

-- the call as it is made: standard input can be read once
abbrev pub made_call : Call → Call
made_call call = if has_hyphens (inputs_of call) then conflict else named_call call

-- ---- a request

abbrev pub has_hyphens_in : Meaning → Bool
has_hyphens_in (calls call) = has_hyphens (inputs_of call)
has_hyphens_in _ = false

abbrev pub named_meaning : Meaning → Meaning
named_meaning (calls call) = calls (named_call call)
named_meaning other = other

-- a request that asks for this is made of one that asks for that
abbrev pub IsMade : (written made : Meaning) → Type 0
IsMade (calls call) made = IsFound (Some (made_call call)) made
IsMade other made = made ≡ other
