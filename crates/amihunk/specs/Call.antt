-- What a command line asks for.
use Rattle.std.specs.Prelude.{◌≡◌, ⊤, Bool, List, Option, Some}
use Rattle.clap.specs.Walk.{texts}
use Rattle.clap.specs.Words.{Text}
use Rattle.hunk_tool.specs.declared.copy.CopyForm.{CopyForm}
use Rattle.hunk_tool.specs.declared.link_options.LinkOptions.{LinkOptions}
use Rattle.hunk_store.specs.Addresses.{AddressSource, source_of}
use Rattle.hunk_store.specs.FileList.{NamedList, given_list}
use Rattle.hunk_commands.specs.Request.{given_text}
use Rattle.hunk_commands.specs.declared.load.LoadText.{LoadText}
use Rattle.hunk_commands.specs.declared.survey.SurveyOptions.{SurveyOptions}
use Rattle.hunk_commands.specs.declared.text.ShowText.{ShowText}
use Rattle.hunk_commands.specs.declared.request.Request.{Request}
use Rattle.hunk_commands.specs.declared.request.Request.TheVariants.{Link, Load, Image, Check, Show, Names, Survey, Copy, Compare, Version, Help, Refused, OutOfMemory}

-- ---- a call

-- a call of a subcommand, with what its arguments say; a conflict is one where arguments exclude each
-- other, where there are no addresses, no files, contents without a document, or lines without a list
pub data Call : Type 0 where
  to_link : (out : Text) (map : Option Text) (options : LinkOptions) (globals explain : Bool) (files : List Text) (list : Option NamedList) → Call
  to_load : (source : AddressSource) (text : LoadText) (explain : Bool) (file : Text) → Call
  to_image : (source : AddressSource) (text : LoadText) (explain : Bool) (files : List Text) → Call
  to_check : (lint explain : Bool) (file : Text) → Call
  to_show : (text : ShowText) (explain : Bool) (file : Text) → Call
  to_names : (files : List Text) → Call
  to_survey : (options : SurveyOptions) (files : List Text) (list : Option NamedList) → Call
  to_copy : (out : Text) (form : CopyForm) (explain : Bool) (file : Text) → Call
  to_compare : (with_symbols : Bool) (first second : Text) → Call
  conflict : Call

-- ---- what a request asks for

-- what a request asks for: a call, the version, help or a rejection; or nothing, as memory ran out
pub data Meaning : Type 0 where
  calls : Call → Meaning
  version : Meaning
  help : Meaning
  rejection : Meaning
  nothing : Meaning

abbrev pub meaning : Request → Meaning
meaning (Link out map options globals explain files list) = calls (to_link out.now (given_text map) options globals explain (texts files.items) (given_list list))
meaning (Load addresses text explain file) = calls (to_load (source_of addresses) text explain file.now)
meaning (Image addresses text explain files) = calls (to_image (source_of addresses) text explain (texts files.items))
meaning (Check lint explain file) = calls (to_check lint explain file.now)
meaning (Show text explain file) = calls (to_show text explain file.now)
meaning (Names files) = calls (to_names (texts files.items))
meaning (Survey options files list) = calls (to_survey options (texts files.items) (given_list list))
meaning (Copy out form explain file) = calls (to_copy out.now form explain file.now)
meaning (Compare with_symbols first second) = calls (to_compare with_symbols first.now second.now)
meaning Version = version
meaning (Help text) = help
meaning (Refused text) = rejection
meaning OutOfMemory = nothing

-- the request means this, or memory ran out
abbrev pub IsOrNothing : Meaning → Meaning → Type 0
IsOrNothing wanted nothing = ⊤
IsOrNothing wanted other = other ≡ wanted

abbrev pub Means : Meaning → Request → Type 0
Means wanted request = IsOrNothing wanted (meaning request)

abbrev pub Asks : Call → Request → Type 0
Asks call = Means (calls call)

-- the meaning is the call that was found, or rejects a conflict; nothing is said if memory runs out
abbrev pub IsFound : Option Call → Meaning → Type 0
IsFound found (calls call) = found ≡ Some call
IsFound found rejection = found ≡ Some conflict
IsFound found nothing = ⊤
IsFound found _ = ⊥
