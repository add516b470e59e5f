-- Over files that are known, and an output that has not failed, no request fails for a device.
use Rattle.std.specs.Prelude.{◌≡◌, ℕ, List, Bool, Option, false, ⊤}
use Rattle.hunk_tool.specs.declared.copy.CopyForm.{CopyForm}
use Rattle.hunk_tool.specs.declared.link_options.LinkOptions.{LinkOptions}
use Rattle.hunk_tool.specs.declared.tool_fault.ToolFault.TheVariants.{InputDevice, Output}
use Rattle.hunk_store.specs.Addresses.{AddressSource}
use Rattle.hunk_store.specs.FileList.{IsListFailure, NamedList}
use Rattle.hunk_store.specs.Output.{Printed}
use Rattle.hunk_store.specs.Store.{Contents, IsKnown}
use Rattle.hunk_store.specs.declared.failure.Failure.{Failure}
use Rattle.hunk_store.specs.declared.failure.Failure.TheVariants.{Printing, Reading, Tool, Writing}
use Rattle.hunk_commands.specs.Compare.{IsCompareFailure}
use Rattle.hunk_commands.specs.Copy.{IsCopyFailure}
use Rattle.hunk_commands.specs.Image.{IsImageFailure}
use Rattle.hunk_commands.specs.Link.{IsLinkFailure, IsMapFailure}
use Rattle.hunk_commands.specs.Load.{IsLoadFailure}
use Rattle.hunk_commands.specs.Survey.{IsSurveyFailure}
use Rattle.hunk_commands.specs.Text.{IsTextFailure}
use Rattle.hunk_commands.specs.declared.load.LoadText.{LoadText}
use Rattle.hunk_commands.specs.declared.survey.SurveyOptions.{SurveyOptions}
use Rattle.hunk_commands.specs.declared.text.Text.{Text}

-- a read or a write failed
abbrev pub IsOfDevice : Failure → Type 0
IsOfDevice (Reading file) = ⊤
IsOfDevice (Writing file) = ⊤
IsOfDevice Printing = ⊤
IsOfDevice (Tool (InputDevice file)) = ⊤
IsOfDevice (Tool (Output written)) = ⊤
IsOfDevice _ = ⊥

-- it is known of every file whether it is there, and what is in it
abbrev pub AreKnown : Contents → Type 0
AreKnown contents = (name : List ℕ) → IsKnown (contents name)

-- no request failed so
pub record IsNoFailure (contents contents_then : Contents) (printed : Printed) (failure : Failure) : Type 0 where
  pub load : (text : LoadText) (source : AddressSource) (file : List ℕ) → IsLoadFailure text contents source file printed failure → ⊥
  pub image : (text : LoadText) (source : AddressSource) (files : List (List ℕ)) → IsImageFailure text contents source files printed failure → ⊥
  pub text : (text : Text) (file : List ℕ) → IsTextFailure text contents file printed failure → ⊥
  pub compare : (with_symbols : Bool) (first second : List ℕ) → IsCompareFailure with_symbols contents first second printed failure → ⊥
  pub survey : (options : SurveyOptions) (files : List (List ℕ)) (list : Option NamedList) → IsSurveyFailure options contents files list printed failure → ⊥
  pub list : (list : NamedList) → IsListFailure contents list failure → ⊥
  pub link : (globals : Bool) (options : LinkOptions) (files : List (List ℕ)) (out : List ℕ) → IsLinkFailure globals options contents files out failure → ⊥
  pub link_with_map : (globals : Bool) (options : LinkOptions) (files : List (List ℕ)) (out map : List ℕ) → IsMapFailure globals options contents files out map contents_then failure → ⊥
  pub copy : (form : CopyForm) (file out : List ℕ) → IsCopyFailure form contents file out failure → ⊥

-- Where it is known of all files what is in them, and no write of the output has failed, no request failed for a
-- device.
abbrev pub NoDeviceFails : Type 0
NoDeviceFails =
    (contents contents_then : Contents) (printed : Printed) (failure : Failure) → AreKnown contents → AreKnown contents_then → printed.failed ≡ false
    → IsOfDevice failure → IsNoFailure contents contents_then printed failure
