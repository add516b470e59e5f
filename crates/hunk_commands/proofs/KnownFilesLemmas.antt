-- No request over files that are known fails for a device.
use Rattle.std.proofs.Common.{◌≡◌, ℕ, zero, suc, List, [], ◌∷◌, ◌++◌, Bool, Bor, false, IsTrue, None, Option, Some, inl, inr, subst, sym}
use Rattle.std.specs.declared.alloc.Global.{Global}
use Rattle.hunk_tool.specs.FileSystem.{FileContent, OfFile}
use Rattle.hunk_tool.specs.FileSystem.FileContent.{known, missing, unknown}
use Rattle.hunk_tool.specs.Inputs.{Input, IsUnread}
use Rattle.hunk_tool.specs.declared.copy.CopyForm.{CopyForm}
use Rattle.hunk_tool.specs.declared.link_options.LinkOptions.{LinkOptions}
use Rattle.hunk_tool.specs.declared.tool_fault.ToolFault.{ToolFault}
use Rattle.hunk_tool.specs.declared.tool_fault.ToolFault.TheVariants as tool_fault
use Rattle.hunk_store.specs.Addresses.{AddressSource}
use Rattle.hunk_store.specs.FileList.{IsListFailure, IsUnopenedList, NamedList}
use Rattle.hunk_store.specs.Inputs.{AreReadersOf, OfFiles}
use Rattle.hunk_store.specs.Output.{Printed}
use Rattle.hunk_store.specs.Store.{Contents, IsKnown}
use Rattle.hunk_store.specs.declared.failure.Failure.{Failure}
use Rattle.hunk_store.specs.declared.failure.Failure.TheVariants.{BadName, BadNumber, MapOverFile, Opening, Printing, Reading, SameFile, TooLong, TooManyAddresses, Tool, Writing}
use Rattle.hunk_commands.specs.Compare.{IsCompareFailure}
use Rattle.hunk_commands.specs.Copy.{IsCopyFailure}
use Rattle.hunk_commands.specs.Image.{IsImageFailure}
use Rattle.hunk_commands.specs.KnownFiles.{AreKnown, IsOfDevice, NoDeviceFails}
use Rattle.hunk_commands.specs.Link.{IsLinkFailure, IsMapFailure}
use Rattle.hunk_commands.specs.Load.{IsLoadFailure}
use Rattle.hunk_commands.specs.Survey.{IsCutShort, IsNotOpen, IsSurveyFailure, IsUnreadList, plan_of}
use Rattle.hunk_commands.specs.Text.{IsTextFailure}
use Rattle.hunk_commands.specs.declared.load.LoadText.{LoadText}
use Rattle.hunk_commands.specs.declared.survey.Plan.{Plan}
use Rattle.hunk_commands.specs.declared.survey.SurveyOptions.{SurveyOptions}
use Rattle.hunk_commands.specs.declared.text.Text.{Text}

-- what holds of each failure of a device holds of one that is
by_device : (P : Failure → Type 0) → ((file : Bor (List ℕ)) → P (Reading file)) → ((file : Bor (List ℕ)) → P (Writing file)) → P Printing
    → ((file : ℕ) → P (Tool (tool_fault.InputDevice file))) → ((written : ℕ) → P (Tool (tool_fault.Output written))) → (failure : Failure) → IsOfDevice failure → P failure
by_device P reading writing printing device output (BadNumber addresses index) is = absurd is
by_device P reading writing printing device output (TooManyAddresses file) is = absurd is
by_device P reading writing printing device output (TooLong file) is = absurd is
by_device P reading writing printing device output (BadName list index) is = absurd is
by_device P reading writing printing device output (Opening name reason) is = absurd is
by_device P reading writing printing device output (Reading file) is = reading file
by_device P reading writing printing device output (Writing file) is = writing file
by_device P reading writing printing device output (SameFile file) is = absurd is
by_device P reading writing printing device output (MapOverFile file) is = absurd is
by_device P reading writing printing device output Printing is = printing
by_device P reading writing printing device output (Tool (tool_fault.Input file fault)) is = absurd is
by_device P reading writing printing device output (Tool (tool_fault.InputDevice file)) is = device file
by_device P reading writing printing device output (Tool (tool_fault.Link refusal)) is = absurd is
by_device P reading writing printing device output (Tool (tool_fault.Place fault)) is = absurd is
by_device P reading writing printing device output (Tool (tool_fault.Output written)) is = output written
by_device P reading writing printing device output (Tool (tool_fault.OutOfMemory written)) is = absurd is

-- a failure of a device is not that memory ran out
abbrev is_out_of_memory : ToolFault Global → Type 0
is_out_of_memory fault = fault ≡ tool_fault.OutOfMemory 0

device_apart : (file : ℕ) → is_out_of_memory (tool_fault.InputDevice file) → ⊥
device_apart file same = cc

output_apart : (written : ℕ) → is_out_of_memory (tool_fault.Output written) → ⊥
output_apart written same = cc

-- a file that is known is not unknown
known_apart : (content : FileContent) → IsKnown content → content ≡ unknown → ⊥
known_apart unknown is_known same = absurd is_known
known_apart missing is_known same = cc
known_apart (known bytes) is_known same = cc

-- no read of a reader of files that are known failed
no_read_failed : (contents : Contents) → AreKnown contents → (names : List (List ℕ)) (inputs before after : List Input) (input : Input) → AreReadersOf contents names inputs → inputs ≡ before ++ input ∷ after → IsTrue input.failed → ⊥
no_read_failed contents are_known [] [] [] after input readers among failing = cc
no_read_failed contents are_known [] [] (one ∷ before) after input readers among failing = cc
no_read_failed contents are_known [] (first ∷ inputs) before after input readers among failing = absurd readers
no_read_failed contents are_known (name ∷ names) [] before after input readers among failing = absurd readers
no_read_failed contents are_known (name ∷ names) (first ∷ inputs) [] after input readers among failing =
    let same : first ≡ input = cc in
    known_apart (contents name) (are_known name) (readers.0.may_fail (subst (λ it. IsTrue it.failed) (sym same) failing))
no_read_failed contents are_known (name ∷ names) (first ∷ inputs) (one ∷ before) after input readers among failing =
    let rest : inputs ≡ before ++ input ∷ after = cc in
    no_read_failed contents are_known names inputs before after input readers.1 rest failing

module _ (contents contents_then : Contents) (printed : Printed) (are_known : AreKnown contents) (are_known_then : AreKnown contents_then) (whole : printed.failed ≡ false) where
  no_write : IsTrue printed.failed → ⊥
  no_write failing = let none : IsTrue false = subst IsTrue whole failing in cc

  no_file : (name : List ℕ) → contents name ≡ unknown → ⊥
  no_file name same = known_apart (contents name) (are_known name) same

  -- this holds of no reader of a file
  no_reader : (name : List ℕ) (Holds : Input → Type 0) → ((input : Input) → Holds input → IsTrue input.failed) → OfFile (contents name) Holds → ⊥
  unfolding no_file
  no_reader name Holds gives of = no_file name (of.is_reader.may_fail (gives of.input of.holds))

  -- and none of several could not be read
  no_readers : (names : List (List ℕ)) (file : ℕ) (Holds : List Input → Type 0) → ((inputs : List Input) → Holds inputs → IsUnread inputs file) → OfFiles contents names Holds → ⊥
  no_readers names file Holds gives of =
      let unread = gives of.inputs of.holds in
      no_read_failed contents are_known names of.inputs unread.before unread.after unread.input of.are_readers unread.among unread.refused

  load : (text : LoadText) (source : AddressSource) (file : List ℕ) (failure : Failure) → IsOfDevice failure → IsLoadFailure text contents source file printed failure → ⊥
  unfolding no_write no_file no_reader
  load text source file = by_device (λ failure. IsLoadFailure text contents source file printed failure → ⊥)
      (λ name why. elim why [ inl first ↦ no_reader name.now (λ input. IsTrue input.failed) (λ input failing. failing) first.0.1 | inr second ↦ absurd second ])
      (λ name why. elim why [ inl first ↦ absurd first.0 | inr second ↦ absurd second ])
      (λ why. elim why [ inl first ↦ absurd first.0 | inr second ↦ no_write second.1 ])
      (λ number why. elim why [ inl first ↦ device_apart number first.0 | inr at ↦ no_file file (at.holds.is_reader.may_fail at.holds.holds.1) ])
      (λ written why. elim why [ inl first ↦ output_apart written first.0 | inr at ↦ no_write at.holds.holds.2 ])

  image : (text : LoadText) (source : AddressSource) (files : List (List ℕ)) (failure : Failure) → IsOfDevice failure → IsImageFailure text contents source files printed failure → ⊥
  unfolding no_write no_file no_reader no_readers
  image text source files = by_device (λ failure. IsImageFailure text contents source files printed failure → ⊥)
      (λ name why. elim why [
        | inl first ↦ no_reader name.now (λ input. IsTrue input.failed) (λ input failing. failing) first.0.1
        | inr second ↦ elim second [ inl unopened ↦ absurd unopened.0.holds | inr third ↦ elim third [ inl stopped ↦ absurd stopped | inr unprinted ↦ no_write unprinted.2 ] ]
      ])
      (λ name why. elim why [
        | inl first ↦ absurd first.0
        | inr second ↦ elim second [ inl unopened ↦ absurd unopened.0.holds | inr third ↦ elim third [ inl stopped ↦ absurd stopped | inr unprinted ↦ no_write unprinted.2 ] ]
      ])
      (λ why. elim why [
        | inl first ↦ absurd first.0
        | inr second ↦ elim second [ inl unopened ↦ absurd unopened.0.holds | inr third ↦ elim third [ inl stopped ↦ absurd stopped | inr unprinted ↦ no_write unprinted.2 ] ]
      ])
      (λ number why. elim why [
        | inl first ↦ device_apart number first.0
        | inr second ↦ elim second [ inl unopened ↦ device_apart number unopened.0.holds | inr third ↦ elim third [ inl at ↦ no_readers files number _ (λ inputs fault. fault.0) at.holds | inr unprinted ↦ no_write unprinted.2 ] ]
      ])
      (λ written why. elim why [
        | inl first ↦ output_apart written first.0
        | inr second ↦ elim second [ inl unopened ↦ output_apart written unopened.0.holds | inr third ↦ elim third [ inl at ↦ no_write at.holds.holds.1 | inr unprinted ↦ no_write unprinted.2 ] ]
      ])

  told : (text : Text) (file : List ℕ) (failure : Failure) → IsOfDevice failure → IsTextFailure text contents file printed failure → ⊥
  unfolding no_write no_file
  told text file = by_device (λ failure. IsTextFailure text contents file printed failure → ⊥)
      (λ name why. absurd why) (λ name why. absurd why) (λ why. no_write why.1)
      (λ number why. no_file file (why.is_reader.may_fail why.holds.1)) (λ written why. no_write why.holds.2)

  compared_device : (with_symbols : Bool) (first second : List ℕ) (number : ℕ) → IsCompareFailure with_symbols contents first second printed (Tool (tool_fault.InputDevice number)) → ⊥
  unfolding no_file
  compared_device with_symbols first second zero why = no_file first (why.is_reader.may_fail why.holds.holds.0.0)
  compared_device with_symbols first second (suc zero) why = no_file second (why.holds.is_reader.may_fail why.holds.holds.0.1)
  compared_device with_symbols first second (suc (suc number)) why = absurd why.holds.holds.0

  compared : (with_symbols : Bool) (first second : List ℕ) (failure : Failure) → IsOfDevice failure → IsCompareFailure with_symbols contents first second printed failure → ⊥
  unfolding no_write compared_device
  compared with_symbols first second = by_device (λ failure. IsCompareFailure with_symbols contents first second printed failure → ⊥)
      (λ name why. absurd why) (λ name why. absurd why) (λ why. no_write why.1)
      (λ number why. compared_device with_symbols first second number why) (λ written why. no_write why.holds.holds.1)

  unlisted : (list : NamedList) (failure : Failure) → IsOfDevice failure → IsListFailure contents list failure → ⊥
  unfolding no_file
  unlisted list = by_device (λ failure. IsListFailure contents list failure → ⊥)
      (λ name why. no_file list.file why.1) (λ name why. absurd why) (λ why. absurd why)
      (λ number why. device_apart number why) (λ written why. output_apart written why)

  not_open : (list : Option NamedList) (failure : Failure) → IsOfDevice failure → IsNotOpen contents list failure → ⊥
  not_open None failure is why = absurd why
  not_open (Some list) failure is why =
      by_device (λ failure. IsUnopenedList contents list failure → ⊥)
      (λ name why. absurd why) (λ name why. absurd why) (λ why. absurd why)
      (λ number why. device_apart number why) (λ written why. output_apart written why) failure is why

  unread_list : (list : Option NamedList) (name : Bor (List ℕ)) → IsUnreadList contents list name → ⊥
  unfolding no_file
  unread_list None name why = absurd why
  unread_list (Some list) name why = no_file list.file why.1

  cut_short : (plan : Plan) (list : Option NamedList) (names : List (List ℕ)) (failure : Failure) → IsOfDevice failure → IsCutShort plan contents list names printed failure → ⊥
  unfolding no_write unread_list
  cut_short plan list names = by_device (λ failure. IsCutShort plan contents list names printed failure → ⊥)
      (λ name why. unread_list list name why.1) (λ name why. absurd why) (λ why. no_write why.1)
      (λ number why. device_apart number why.1) (λ written why. output_apart written why.1)

  surveyed : (options : SurveyOptions) (files : List (List ℕ)) (list : Option NamedList) (failure : Failure) → IsOfDevice failure → IsSurveyFailure options contents files list printed failure → ⊥
  unfolding not_open cut_short
  surveyed options files list failure is why =
      elim why [ inl unopened ↦ not_open list failure is unopened.0 | inr short ↦ cut_short (plan_of options files list) list short.0 failure is short.2 ]

  linked : (globals : Bool) (options : LinkOptions) (files : List (List ℕ)) (out : List ℕ) (failure : Failure) → IsOfDevice failure → IsLinkFailure globals options contents files out failure → ⊥
  unfolding no_file no_readers
  linked globals options files out = by_device (λ failure. IsLinkFailure globals options contents files out failure → ⊥)
      (λ name why. elim why [ inl unopened ↦ absurd unopened | inr second ↦ elim second [ inl ran ↦ absurd ran | inr unplaced ↦ absurd unplaced.1 ] ])
      (λ name why. elim why [ inl unopened ↦ absurd unopened | inr second ↦ elim second [ inl ran ↦ absurd ran | inr unplaced ↦ absurd unplaced.1 ] ])
      (λ why. elim why [ inl unopened ↦ absurd unopened | inr second ↦ elim second [ inl ran ↦ absurd ran | inr unplaced ↦ no_file out unplaced.1 ] ])
      (λ number why. elim why [
        | inl unopened ↦ device_apart number unopened
        | inr second ↦ elim second [ inl ran ↦ no_readers files number _ (λ inputs fault. fault.1.0) ran.0 | inr unplaced ↦ device_apart number unplaced.1 ]
      ])
      (λ written why. elim why [
        | inl unopened ↦ output_apart written unopened
        | inr second ↦ elim second [ inl ran ↦ no_file out (ran.1 tt) | inr unplaced ↦ output_apart written unplaced.1 ]
      ])

  mapped : (globals : Bool) (options : LinkOptions) (files : List (List ℕ)) (out map : List ℕ) (failure : Failure) → IsOfDevice failure → IsMapFailure globals options contents files out map contents_then failure → ⊥
  unfolding no_file no_readers
  mapped globals options files out map = by_device (λ failure. IsMapFailure globals options contents files out map contents_then failure → ⊥)
      (λ name why. elim why [
        | inl before ↦ elim before.0 [ inl taken ↦ absurd taken | inr second ↦ elim second [ inl ran ↦ absurd ran | inr unplaced ↦ absurd unplaced.2 ] ]
        | inr after ↦ absurd after.1
      ])
      (λ name why. elim why [
        | inl before ↦ elim before.0 [ inl taken ↦ absurd taken | inr second ↦ elim second [ inl ran ↦ absurd ran | inr unplaced ↦ absurd unplaced.2 ] ]
        | inr after ↦ known_apart (contents_then map) (are_known_then map) after.1.1
      ])
      (λ why. elim why [
        | inl before ↦ elim before.0 [ inl taken ↦ absurd taken | inr second ↦ elim second [ inl ran ↦ absurd ran | inr unplaced ↦ no_file out unplaced.2 ] ]
        | inr after ↦ absurd after.1
      ])
      (λ number why. elim why [
        | inl before ↦ elim before.0 [
          | inl taken ↦ absurd taken
          | inr second ↦ elim second [ inl ran ↦ elim ran [ inl memory ↦ device_apart number memory | inr of ↦ no_readers files number _ (λ inputs fault. fault) of ] | inr unplaced ↦ absurd unplaced.2 ]
        ]
        | inr after ↦ absurd after.1
      ])
      (λ written why. elim why [
        | inl before ↦ elim before.0 [
          | inl taken ↦ absurd taken
          | inr second ↦ elim second [ inl ran ↦ elim ran [ inl memory ↦ output_apart written memory | inr of ↦ absurd of.holds ] | inr unplaced ↦ no_file out unplaced.2 ]
        ]
        | inr after ↦ absurd after.1
      ])

  copied : (form : CopyForm) (file out : List ℕ) (failure : Failure) → IsOfDevice failure → IsCopyFailure form contents file out failure → ⊥
  unfolding no_file
  copied form file out = by_device (λ failure. IsCopyFailure form contents file out failure → ⊥)
      (λ name why. elim why [ inl ran ↦ absurd ran | inr unplaced ↦ absurd unplaced.1 ])
      (λ name why. elim why [ inl ran ↦ absurd ran | inr unplaced ↦ absurd unplaced.1 ])
      (λ why. elim why [ inl ran ↦ absurd ran | inr unplaced ↦ no_file out unplaced.1 ])
      (λ number why. elim why [
        | inl ran ↦ elim ran [ inl memory ↦ device_apart number memory | inr fault ↦ no_file file (fault.0.is_reader.may_fail fault.0.holds.1.1) ]
        | inr unplaced ↦ device_apart number unplaced.1
      ])
      (λ written why. elim why [
        | inl ran ↦ elim ran [ inl memory ↦ output_apart written memory | inr fault ↦ no_file out (fault.1 tt) ]
        | inr unplaced ↦ output_apart written unplaced.1
      ])

pub no_device_fails : NoDeviceFails
unfolding load image told compared unlisted surveyed linked mapped copied
no_device_fails contents contents_then printed failure are_known are_known_then whole is = record {
  load = λ text source file. load contents contents_then printed are_known are_known_then whole text source file failure is;
  image = λ text source files. image contents contents_then printed are_known are_known_then whole text source files failure is;
  text = λ text file. told contents contents_then printed are_known are_known_then whole text file failure is;
  compare = λ with_symbols first second. compared contents contents_then printed are_known are_known_then whole with_symbols first second failure is;
  survey = λ options files list. surveyed contents contents_then printed are_known are_known_then whole options files list failure is;
  list = λ list. unlisted contents contents_then printed are_known are_known_then whole list failure is;
  link = λ globals options files out. linked contents contents_then printed are_known are_known_then whole globals options files out failure is;
  link_with_map = λ globals options files out map. mapped contents contents_then printed are_known are_known_then whole globals options files out map failure is;
  copy = λ form file out. copied contents contents_then printed are_known are_known_then whole form file out failure is;
}
