-- The status after the plain forms, and where memory ran out.
use Rattle.std.proofs.Common.{◌∷◌, [], Bool, inl, inr, List, None, Option, Some, refl, subst, ℕ, arith}
use Rattle.std.proofs.KnownBytes.{Appends-kept, Appends-nil}
use Rattle.std.proofs.lemmas.List.Elements.{All-nil}
use Rattle.hunk_survey.specs.Finding.{IsOfFile, content_of}
use Rattle.std.specs.Prelude.{⊤}
use Rattle.std.specs.String.{string_bytes}
use Rattle.hunk_store.specs.Failure.{status_of_comparison}
use Rattle.hunk_store.specs.Output.{IsNothing, IsUnprinted, Printed}
use Rattle.hunk_store.specs.Store.{AreUnchanged, Contents}
use Rattle.hunk_store.specs.FileList.{IsListFailure}
use Rattle.hunk_commands.specs.Request.{Ends, EndsCompare, EndsCopy, EndsImage, EndsLink, EndsLoad, EndsNames, EndsSurvey, EndsText, EndsVersion, NoMore, OrExhausted, OrUntouched, Reads, Replaces, Run}
use Rattle.hunk_commands.specs.Compare.{IsCompareFailure}
use Rattle.hunk_commands.specs.Copy.{IsCopyFailure}
use Rattle.hunk_commands.specs.Explain.{AreImageLines, AreLinkLines, AreLoadFileLines, AreLoadLines, AreTextLines, IfAsked}
use Rattle.hunk_commands.specs.Image.{IsImageFailure}
use Rattle.hunk_commands.specs.Link.{IsUndone}
use Rattle.hunk_commands.specs.Load.{IsLoadFailure}
use Rattle.hunk_commands.specs.Names.{IsNamesFailure}
use Rattle.hunk_commands.specs.Text.{IsTextFailure, checked}
use Rattle.hunk_commands.specs.Survey.{AreToldFirst, IsSurveyFailure, plan_of}
use Rattle.hunk_commands.specs.declared.survey.SurveyOptions.{SurveyOptions}
use Rattle.hunk_tool.specs.declared.tool_fault.ToolFault.TheVariants as tool_fault
use Rattle.hunk_store.specs.declared.failure.Failure.TheVariants.{Tool}
use Rattle.hunk_commands.specs.declared.text.Text.{Text}
use Rattle.hunk_commands.specs.declared.text.Text.TheVariants.{Shown}
use Rattle.hunk_commands.specs.declared.request.Request.{Request}
use Rattle.hunk_commands.specs.declared.request.Request.TheVariants.{Load, Link, Image, Check, Show, Names, Survey, Copy, Compare, Version, Help, Refused, OutOfMemory}
use Rattle.hunk_commands.proofs.ExplainLemmas.{none_asked}
use Rattle.hunk_commands.proofs.RequestLemmas.{fails_with, not_begun}
use Rattle.amihunk.specs.Call.{Call, Meaning, Means}
use Rattle.amihunk.specs.Program.{IsRejected}
use Rattle.amihunk.specs.Call.Meaning.{calls, help, nothing, rejection, version}
use Rattle.amihunk.specs.Call.Call.{conflict, to_check, to_compare, to_copy, to_image, to_link, to_load, to_names, to_show, to_survey}

-- nothing was told of any file
none_told : (options : SurveyOptions) (files : List (List ℕ)) (contents : Contents) (names : List (List ℕ)) (printed : Printed) → IsNothing printed
    → AreToldFirst (plan_of options files None) contents names printed.old printed.new
none_told options files contents [] printed kept = record {
  findings = [];
  are_first = record { few = omega arith; of_files = All-nil (λ about. IsOfFile (plan_of options files None).find (content_of contents about.0) about.1) };
  written = Appends-kept printed.old printed.old printed.new [] (Appends-nil printed.old) kept;
}
none_told options files contents (name ∷ names) printed kept = record {
  findings = [];
  are_first = record { few = omega arith; of_files = All-nil (λ about. IsOfFile (plan_of options files None).find (content_of contents about.0) about.1) };
  written = Appends-kept printed.old printed.old printed.new [] (Appends-nil printed.old) kept;
}

module _ {W : Type 0} (run : Run) (taken : W → Option (List ℕ)) (failed : W → Bool) (old new : W) where
  -- the status after a call; a conflict has none
  abbrev pub EndsCall : Call → ℕ → Type 0
  EndsCall (to_link out map options globals explain files list) status = Replaces run (λ contents contents_then. EndsLink contents contents_then taken failed old new out map options globals explain files list status)
  EndsCall (to_load source text explain file) status = Reads run (λ contents printed. EndsLoad contents printed taken failed old new source text explain file status)
  EndsCall (to_image source form explain files) status = Reads run (λ contents printed. EndsImage contents printed taken failed old new source form explain files status)
  EndsCall (to_check lint explain file) status = Reads run (λ contents printed. EndsText contents printed taken failed old new (checked lint) explain file status)
  EndsCall (to_show text explain file) status = Reads run (λ contents printed. EndsText contents printed taken failed old new (Shown text) explain file status)
  EndsCall (to_names files) status = Reads run (λ contents printed. EndsNames contents printed taken failed old new files status)
  EndsCall (to_survey options files list) status = Reads run (λ contents printed. EndsSurvey options contents printed taken failed old new files list status)
  EndsCall (to_copy out form explain file) status = Replaces run (λ contents contents_then. EndsCopy contents contents_then taken failed old new out form explain file status)
  EndsCall (to_compare with_symbols first second) status = Reads run (λ contents printed. EndsCompare contents printed taken failed old new with_symbols first second status)
  EndsCall conflict status = Ends run taken failed old new OutOfMemory status

  -- the status of a text about FILE where memory ran out
  ends_text : (text : Text) (explain : Bool) (file : List ℕ) (status : ℕ) → Ends run taken failed old new OutOfMemory status
      → Reads run (λ contents printed. EndsText contents printed taken failed old new text explain file status)
  ends_text text explain file status ends =
      (inr (not_begun taken failed (OrExhausted run.printed (IsTextFailure text run.contents file run.printed)) (IfAsked explain (AreTextLines run.contents (file ∷ []))) (file ∷ []) status old new (inl (refl, ends.2)) (none_asked explain (AreTextLines run.contents (file ∷ [])) (Tool (tool_fault.OutOfMemory 0)) refl) ends.0), ends.1)

  ends_memory : (call : Call) (status : ℕ) → Ends run taken failed old new OutOfMemory status → EndsCall call status
  ends_memory (to_link out map options globals explain files None) status ends = (
    inr (not_begun taken failed (OrUntouched run.contents run.contents_then (IsUndone globals options run.contents files out map run.contents_then)) (IfAsked explain (AreLinkLines run.contents_then files)) files status old new
        (inl (refl, ends.1)) (none_asked explain (AreLinkLines run.contents_then files) (Tool (tool_fault.OutOfMemory 0)) refl) ends.0),
    ends.2,
  )
  ends_memory (to_link out map options globals explain files (Some list)) status ends = (
    inr (not_begun taken failed (λ failure. IsListFailure run.contents list failure × AreUnchanged run.contents run.contents_then) (IfAsked explain (AreLinkLines run.contents_then [])) [] status old new
        (refl, ends.1) (none_asked explain (AreLinkLines run.contents_then []) (Tool (tool_fault.OutOfMemory 0)) refl) ends.0),
    ends.2,
  )
  ends_memory (to_load source text explain file) status ends = (
    inr (not_begun taken failed (OrExhausted run.printed (IsLoadFailure text run.contents source file run.printed)) (IfAsked explain (AreLoadLines run.contents source file)) (file ∷ []) status old new (inl (refl, ends.2))
        (none_asked explain (AreLoadLines run.contents source file) (Tool (tool_fault.OutOfMemory 0)) refl) ends.0),
    ends.1,
  )
  ends_memory (to_image source form explain files) status ends = (
    inr (not_begun taken failed (OrExhausted run.printed (IsImageFailure form run.contents source files run.printed)) (IfAsked explain (AreImageLines run.contents source files)) files status old new (inl (refl, ends.2))
        (none_asked explain (AreImageLines run.contents source files) (Tool (tool_fault.OutOfMemory 0)) refl) ends.0),
    ends.1,
  )
  ends_memory (to_check lint explain file) status ends = ends_text (checked lint) explain file status ends
  ends_memory (to_show text explain file) status ends = ends_text (Shown text) explain file status ends
  ends_memory (to_names files) status ends =
      (inr (not_begun taken failed (OrExhausted run.printed (IsNamesFailure run.contents files run.printed)) NoMore files status old new (inl (refl, ends.2)) refl ends.0), ends.1)
  ends_memory (to_survey options files None) status ends = (
    inr (not_begun taken failed (IsSurveyFailure options run.contents files None run.printed) NoMore [] status old new
        (inr (files, refl, (none_told options files run.contents files run.printed ends.2, refl))) refl ends.0),
    ends.1,
  )
  ends_memory (to_survey options files (Some list)) status ends =
      (inr (not_begun taken failed (IsSurveyFailure options run.contents files (Some list) run.printed) NoMore [] status old new (inl (refl, ends.2)) refl ends.0), ends.1)
  ends_memory (to_copy out form explain file) status ends = (
    inr (not_begun taken failed (OrUntouched run.contents run.contents_then (λ failure. IsCopyFailure form run.contents file out failure × AreUnchanged run.contents run.contents_then))
        (IfAsked explain (AreLoadFileLines run.contents_then (file ∷ []))) (file ∷ []) status old new (inl (refl, ends.1))
        (none_asked explain (AreLoadFileLines run.contents_then (file ∷ [])) (Tool (tool_fault.OutOfMemory 0)) refl) ends.0),
    ends.2,
  )
  ends_memory (to_compare with_symbols first second) status ends = (
    inr (fails_with status_of_comparison taken failed (OrExhausted run.printed (IsCompareFailure with_symbols run.contents first second run.printed)) NoMore (first ∷ second ∷ []) status old new (Tool (tool_fault.OutOfMemory 0))
        (inl (refl, ends.2)) refl ends.0.0 ends.0.1),
    ends.1,
  )
  ends_memory conflict status ends = ends

  -- the status where this was asked for; of help nothing is said
  abbrev pub EndsAsked : Meaning → ℕ → Type 0
  EndsAsked (calls call) status = EndsCall call status
  EndsAsked version status = Reads run (λ contents printed. EndsVersion printed taken failed old new status)
  EndsAsked rejection status = IsRejected run taken failed old new status
  EndsAsked _ status = ⊤

  ends_nothing : (m : Meaning) (status : ℕ) → Ends run taken failed old new OutOfMemory status → EndsAsked m status
  ends_nothing (calls call) status ends = ends_memory call status ends
  ends_nothing version status ends = (inr (not_begun taken failed (OrExhausted run.printed (IsUnprinted run.printed)) NoMore [] status old new (inl (refl, ends.2)) refl ends.0), ends.1)
  ends_nothing help status ends = tt
  ends_nothing rejection status ends = (inr ends.0, ends.1, ends.2)
  ends_nothing nothing status ends = tt

  pub ends_asked : (m : Meaning) (request : Request) (status : ℕ) → Means m request → Ends run taken failed old new request status → EndsAsked m status
  ends_asked m (Link out map options globals explain files list) status asks ends = subst (λ x. EndsAsked x status) asks ends
  ends_asked m (Load addresses text explain file) status asks ends = subst (λ x. EndsAsked x status) asks ends
  ends_asked m (Image addresses form explain files) status asks ends = subst (λ x. EndsAsked x status) asks ends
  ends_asked m (Check lint explain file) status asks ends = subst (λ x. EndsAsked x status) asks ends
  ends_asked m (Names files) status asks ends = subst (λ x. EndsAsked x status) asks ends
  ends_asked m (Show text explain file) status asks ends = subst (λ x. EndsAsked x status) asks ends
  ends_asked m (Survey options files list) status asks ends = subst (λ x. EndsAsked x status) asks ends
  ends_asked m (Copy out form explain file) status asks ends = subst (λ x. EndsAsked x status) asks ends
  ends_asked m (Compare with_symbols first second) status asks ends = subst (λ x. EndsAsked x status) asks ends
  ends_asked m Version status asks ends = subst (λ x. EndsAsked x status) asks ends
  ends_asked m (Help text) status asks ends = subst (λ x. EndsAsked x status) asks tt
  ends_asked m (Refused text) status asks ends = subst (λ x. EndsAsked x status) asks (inl (ends.0.0, (string_bytes text, ends.0.1)), ends.1, ends.2)
  ends_asked m OutOfMemory status asks ends = ends_nothing m status ends
