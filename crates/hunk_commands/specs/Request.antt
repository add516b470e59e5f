-- The exit status after a request, the line of its failure, and what is told after it.
use Rattle.std.specs.Borrow.{Bor}
use Rattle.std.specs.Prelude.{◌≡◌, ◌⊎◌, ◌∷◌, ◌++◌, [], ℕ, List, Bool, Option, None, Some, if◌then◌else◌, option_map, string_bytes}
use Rattle.hunk_tool.specs.Inputs.{file_names}
use Rattle.hunk_tool.specs.declared.copy.CopyForm.{CopyForm}
use Rattle.hunk_tool.specs.declared.link_options.LinkOptions.{LinkOptions}
use Rattle.hunk_tool.specs.declared.tool_fault.ToolFault.TheVariants as tool_fault
use Rattle.hunk_store.specs.Addresses.{AddressSource, source_of}
use Rattle.hunk_store.specs.FileList.{AreNamesIn, IsListFailure, NamedList, given_list}
use Rattle.hunk_store.specs.Failure.{failure_line, status_of, status_of_comparison, TellsLine}
use Rattle.hunk_store.specs.Output.{IsExhausted, IsNothing, IsPrinted, IsUnprinted, Printed, printed_of}
use Rattle.hunk_store.specs.Store.{AreUnchanged, Contents}
use Rattle.hunk_store.specs.declared.failure.Failure.{Failure}
use Rattle.hunk_store.specs.declared.failure.Failure.TheVariants.{Tool}
use Rattle.hunk_commands.specs.Explain.{AreImageLines, AreLinkLines, AreLoadFileLines, AreLoadLines, AreNoLines, AreTextLines, IfAsked}
use Rattle.hunk_commands.specs.Compare.{AreCompared, IsCompareFailure}
use Rattle.hunk_commands.specs.Copy.{IsCopiedOut, IsCopyFailure}
use Rattle.hunk_commands.specs.Load.{IsLoadFailure, IsLoaded}
use Rattle.hunk_commands.specs.Link.{IsDone, IsUndone}
use Rattle.hunk_commands.specs.Image.{AreImaged, IsImageFailure}
use Rattle.hunk_commands.specs.Names.{AreListed, IsNamesFailure}
use Rattle.hunk_commands.specs.Survey.{AreSurveyed, IsSurveyFailure}
use Rattle.hunk_commands.specs.Text.{IsTextFailure, IsTold, checked}
use Rattle.hunk_commands.specs.Version.{version_line}
use Rattle.hunk_commands.specs.declared.load.LoadText.{LoadText}
use Rattle.hunk_commands.specs.declared.survey.SurveyOptions.{SurveyOptions}
use Rattle.hunk_commands.specs.declared.text.Text.{Text}
use Rattle.hunk_commands.specs.declared.text.Text.TheVariants.{Shown}
use Rattle.hunk_commands.specs.declared.request.Request.{Request}
use Rattle.hunk_commands.specs.declared.request.Request.TheVariants.{Load, Link, Image, Check, Show, Names, Survey, Copy, Compare, Version, Help, Refused, OutOfMemory}

-- a request for some files was not done, for a reason of which this holds; the status is that of the
-- failure, and its line went to the writer, and then further lines of which this holds; or a write to it
-- failed
pub record IsFailedWith {W : Type 0} (status_for : Failure → ℕ) (taken : W → Option (List ℕ)) (failed : W → Bool) (old new : W) (Why : Failure → Type 0) (AreMore : Failure → List ℕ → Type 0) (files : List (List ℕ)) (status : ℕ) : Type 0 where
  pub failure : Failure
  pub why : Why failure
  pub status_is : status ≡ status_for failure
  pub more : List ℕ
  pub is_more : AreMore failure more
  pub line : TellsLine taken failed old new (failure_line files failure ++ more)

abbrev pub IsFailed : {W : Type 0} (taken : W → Option (List ℕ)) (failed : W → Bool) (old new : W) (Why : Failure → Type 0) (AreMore : Failure → List ℕ → Type 0) (files : List (List ℕ)) (status : ℕ) → Type 0
IsFailed = IsFailedWith status_of

-- no further lines are told of any failure
abbrev pub NoMore : Failure → List ℕ → Type 0
NoMore failure = AreNoLines

-- memory ran out before anything was printed, or this holds of the failure
abbrev pub OrExhausted : Printed → (Why : Failure → Type 0) → Failure → Type 0
OrExhausted printed Why failure = IsExhausted printed failure ⊎ Why failure

-- memory ran out before any file was touched, or this holds of the failure
abbrev pub OrUntouched : (contents contents_then : Contents) → (Why : Failure → Type 0) → Failure → Type 0
OrUntouched contents contents_then Why failure =
    ((failure ≡ Tool (tool_fault.OutOfMemory 0)) × AreUnchanged contents contents_then) ⊎ Why failure

-- ---- requests that print

-- the status after `load`
abbrev pub EndsLoad : {W : Type 0} → Contents → Printed → (taken : W → Option (List ℕ)) (failed : W → Bool) (old new : W) (source : AddressSource) (text : LoadText) (explain : Bool) (file : List ℕ) → ℕ → Type 0
EndsLoad contents printed taken failed old new source text explain file status =
    ((status ≡ 0) × IsLoaded text contents source file printed)
    ⊎ IsFailed taken failed old new (OrExhausted printed (IsLoadFailure text contents source file printed))
    (IfAsked explain (AreLoadLines contents source file)) (file ∷ []) status

-- the status after `image`
abbrev pub EndsImage : {W : Type 0} → Contents → Printed → (taken : W → Option (List ℕ)) (failed : W → Bool) (old new : W) (source : AddressSource) (text : LoadText) (explain : Bool) (files : List (List ℕ)) → ℕ → Type 0
EndsImage contents printed taken failed old new source text explain files status =
    ((status ≡ 0) × AreImaged text contents source files printed)
    ⊎ IsFailed taken failed old new (OrExhausted printed (IsImageFailure text contents source files printed))
    (IfAsked explain (AreImageLines contents source files)) files status

-- the status after a text about FILE
abbrev pub EndsText : {W : Type 0} → Contents → Printed → (taken : W → Option (List ℕ)) (failed : W → Bool) (old new : W) (text : Text) (explain : Bool) (file : List ℕ) → ℕ → Type 0
EndsText contents printed taken failed old new text explain file status =
    ((status ≡ 0) × IsTold text contents file printed)
    ⊎ IsFailed taken failed old new (OrExhausted printed (IsTextFailure text contents file printed))
    (IfAsked explain (AreTextLines contents (file ∷ []))) (file ∷ []) status

-- the status after `show --names`
abbrev pub EndsNames : {W : Type 0} → Contents → Printed → (taken : W → Option (List ℕ)) (failed : W → Bool) (old new : W) (files : List (List ℕ)) → ℕ → Type 0
EndsNames contents printed taken failed old new files status =
    ((status ≡ 0) × AreListed contents files printed)
    ⊎ IsFailed taken failed old new (OrExhausted printed (IsNamesFailure contents files printed)) NoMore files status

-- the status after `survey`: no file stops it
abbrev pub EndsSurvey : {W : Type 0} → SurveyOptions → Contents → Printed → (taken : W → Option (List ℕ)) (failed : W → Bool) (old new : W) (files : List (List ℕ)) → Option NamedList → ℕ → Type 0
EndsSurvey options contents printed taken failed old new files list status =
    AreSurveyed options contents files list printed status
    ⊎ IsFailed taken failed old new (IsSurveyFailure options contents files list printed) NoMore [] status

-- the status of a comparison that was made
abbrev pub compared_status : (same : Bool) → ℕ
compared_status same = if same then 0 else 1

-- the status after `compare`
abbrev pub EndsCompare : {W : Type 0} → Contents → Printed → (taken : W → Option (List ℕ)) (failed : W → Bool) (old new : W) (with_symbols : Bool) (first second : List ℕ) → ℕ → Type 0
EndsCompare contents printed taken failed old new with_symbols first second status =
    ((same : Bool) × AreCompared with_symbols same contents first second printed × (status ≡ compared_status same))
    ⊎ IsFailedWith status_of_comparison taken failed old new (OrExhausted printed (IsCompareFailure with_symbols contents first second printed))
    NoMore (first ∷ second ∷ []) status

-- the status after a request for a text of the program's own
abbrev pub EndsHelp : {W : Type 0} (text : List ℕ) → Printed → (taken : W → Option (List ℕ)) (failed : W → Bool) (old new : W) → ℕ → Type 0
EndsHelp text printed taken failed old new status =
    ((status ≡ 0) × IsPrinted text printed) ⊎ IsFailed taken failed old new (OrExhausted printed (IsUnprinted printed)) NoMore [] status

-- the status after `--version`
abbrev pub EndsVersion : {W : Type 0} → Printed → (taken : W → Option (List ℕ)) (failed : W → Bool) (old new : W) → ℕ → Type 0
EndsVersion printed taken failed old new status = EndsHelp version_line printed taken failed old new status

-- ---- requests that replace files

-- the argument, if it is given
abbrev pub given_text : Option (Bor (List ℕ)) → Option (List ℕ)
given_text = option_map (λ text. text.now)

-- the status after `link` of these files
abbrev pub EndsLinkOf : {W : Type 0} → (contents contents_then : Contents) → (taken : W → Option (List ℕ)) (failed : W → Bool) (old new : W) (out : List ℕ) (map : Option (List ℕ)) (options : LinkOptions) (globals explain : Bool) (files : List (List ℕ)) → ℕ → Type 0
EndsLinkOf contents contents_then taken failed old new out map options globals explain files status =
    ((status ≡ 0) × IsDone globals options contents files out map contents_then)
    ⊎ IsFailed taken failed old new (OrUntouched contents contents_then (IsUndone globals options contents files out map contents_then))
    (IfAsked explain (AreLinkLines contents_then files)) files status

-- the status after `link`: of the files that are given, and of those in a list, if there is one, after them; or the
-- names in the list are not known, and no file was touched
abbrev pub EndsLink : {W : Type 0} → (contents contents_then : Contents) → (taken : W → Option (List ℕ)) (failed : W → Bool) (old new : W) (out : List ℕ) (map : Option (List ℕ)) (options : LinkOptions) (globals explain : Bool) (files : List (List ℕ)) → Option NamedList → ℕ → Type 0
EndsLink contents contents_then taken failed old new out map options globals explain files None status =
    EndsLinkOf contents contents_then taken failed old new out map options globals explain files status
EndsLink contents contents_then taken failed old new out map options globals explain files (Some list) status =
    ((listed : List (List ℕ)) × AreNamesIn (contents list.file) list.end listed × EndsLinkOf contents contents_then taken failed old new out map options globals explain (files ++ listed) status)
    ⊎ IsFailed taken failed old new (λ failure. IsListFailure contents list failure × AreUnchanged contents contents_then)
    (IfAsked explain (AreLinkLines contents_then [])) [] status

-- the status after `copy`
abbrev pub EndsCopy : {W : Type 0} → (contents contents_then : Contents) → (taken : W → Option (List ℕ)) (failed : W → Bool) (old new : W) (out : List ℕ) (form : CopyForm) (explain : Bool) (file : List ℕ) → ℕ → Type 0
EndsCopy contents contents_then taken failed old new out form explain file status =
    ((status ≡ 0) × IsCopiedOut form contents file out contents_then)
    ⊎ IsFailed taken failed old new (OrUntouched contents contents_then (λ failure. IsCopyFailure form contents file out failure × AreUnchanged contents contents_then))
    (IfAsked explain (AreLoadFileLines contents_then (file ∷ []))) (file ∷ []) status

-- ---- any request

-- what is known of the files before and after a request, and of what was printed
pub record Run : Type 0 where
  pub contents : Contents
  pub contents_then : Contents
  pub printed : Printed

abbrev pub run_between : {S O : Type 0} (content : S → Contents) (taken : O → Option (List ℕ)) (failed : O → Bool) (waiting : O → List ℕ) → (store store_then : S) (output output_then : O) → Run
run_between content taken failed waiting store store_then output output_then =
    record { contents = content store; contents_then = content store_then; printed = printed_of taken failed waiting output output_then }

-- no file was touched, and this holds
abbrev pub Reads : Run → (Holds : Contents → Printed → Type 0) → Type 0
Reads run Holds = Holds run.contents run.printed × AreUnchanged run.contents run.contents_then

-- nothing was printed, and this holds
abbrev pub Replaces : Run → (Holds : (contents contents_then : Contents) → Type 0) → Type 0
Replaces run Holds = Holds run.contents run.contents_then × IsNothing run.printed

-- nothing was done, and this holds
abbrev pub Refuses : Run → (Holds : Type 0) → Type 0
Refuses run Holds = Holds × AreUnchanged run.contents run.contents_then × IsNothing run.printed

-- the status after a request
abbrev pub Ends : {W : Type 0} → Run → (taken : W → Option (List ℕ)) (failed : W → Bool) (old new : W) → Request → ℕ → Type 0
Ends run taken failed old new (Load addresses text explain file) status =
    Reads run (λ contents printed. EndsLoad contents printed taken failed old new (source_of addresses) text explain file.now status)
Ends run taken failed old new (Image addresses text explain files) status =
    Reads run (λ contents printed. EndsImage contents printed taken failed old new (source_of addresses) text explain (file_names files.items) status)
Ends run taken failed old new (Check lint explain file) status =
    Reads run (λ contents printed. EndsText contents printed taken failed old new (checked lint) explain file.now status)
Ends run taken failed old new (Show text explain file) status =
    Reads run (λ contents printed. EndsText contents printed taken failed old new (Shown text) explain file.now status)
Ends run taken failed old new (Names files) status =
    Reads run (λ contents printed. EndsNames contents printed taken failed old new (file_names files.items) status)
Ends run taken failed old new (Survey options files list) status =
    Reads run (λ contents printed. EndsSurvey options contents printed taken failed old new (file_names files.items) (given_list list) status)
Ends run taken failed old new (Compare with_symbols first second) status =
    Reads run (λ contents printed. EndsCompare contents printed taken failed old new with_symbols first.now second.now status)
Ends run taken failed old new (Link out map options globals explain files list) status =
    Replaces run (λ contents contents_then. EndsLink contents contents_then taken failed old new out.now (given_text map) options globals explain (file_names files.items) (given_list list) status)
Ends run taken failed old new (Copy out form explain file) status =
    Replaces run (λ contents contents_then. EndsCopy contents contents_then taken failed old new out.now form explain file.now status)
Ends run taken failed old new Version status = Reads run (λ contents printed. EndsVersion printed taken failed old new status)
Ends run taken failed old new (Help text) status = Reads run (λ contents printed. EndsHelp (string_bytes text) printed taken failed old new status)
Ends run taken failed old new (Refused text) status = Refuses run ((status ≡ 2) × TellsLine taken failed old new (string_bytes text))
Ends run taken failed old new OutOfMemory status = Refuses run ((status ≡ 4) × TellsLine taken failed old new (failure_line [] (Tool (tool_fault.OutOfMemory 0))))
