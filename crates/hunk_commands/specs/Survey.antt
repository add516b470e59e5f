-- What is known of files and of the output after `survey`.
use Rattle.std.specs.Borrow.{Bor}
use Rattle.std.specs.Prelude.{◌≡◌, ◌⊎◌, ◌&&◌, ◌||◌, ◌==◌, ℕ, ◌≤◌, Bool, List, [], ◌++◌, Option, None, Some, is_none, length, if◌then◌else◌, nat_eq, IsTrue}
use Rattle.std.specs.Io.KnownBytes.{Appends, Keeps}
use Rattle.std.specs.List.{flat_map, zip}
use Rattle.hunk_base.specs.Streams.{TookFront}
use Rattle.hunk_survey.specs.Finding.{AreOfFiles}
use Rattle.hunk_survey.specs.FindingJson.{finding_json}
use Rattle.hunk_survey.specs.FindingLine.{finding_line}
use Rattle.hunk_survey.specs.Tally.{tally_of, tally_status, totals_text}
use Rattle.hunk_survey.specs.declared.finding.Finding.{Finding}
use Rattle.hunk_survey.specs.declared.tally.Tally.{Tally}
use Rattle.hunk_tool.specs.FileSystem.FileContent.{unknown}
use Rattle.hunk_tool.specs.declared.tool_fault.ToolFault.TheVariants.{OutOfMemory}
use Rattle.hunk_store.specs.FileList.{AreNames, IsUnopenedList, NamedList}
use Rattle.hunk_store.specs.Output.{IsFlushed, IsNothing, Printed}
use Rattle.hunk_store.specs.Store.{Contents}
use Rattle.hunk_store.specs.declared.failure.Failure.{Failure}
use Rattle.hunk_store.specs.declared.failure.Failure.TheVariants.{Printing, Reading, Tool}
use Rattle.hunk_commands.specs.declared.survey.SurveyOptions.{SurveyOptions}
use Rattle.hunk_commands.specs.declared.survey.Plan.{Plan}

-- ---- what is asked for

-- there is one file, and no list
abbrev pub is_only : (files : List (List ℕ)) → Option NamedList → Bool
is_only files list = (length files == 1) && is_none list

-- how each file is found out about, and told of: what may never answer is waited for where that is asked for, or where
-- it is the only file
abbrev pub plan_of : SurveyOptions → (files : List (List ℕ)) → Option NamedList → Plan
plan_of options files list =
    record { json = options.json; find = record { digest = options.digest; wait = options.wait || is_only files list } }

-- ---- the text

-- the line about a file
abbrev pub survey_line : (json : Bool) → (name : List ℕ) → Finding → List ℕ
survey_line json name finding = if json then finding_json name finding else finding_line name finding

-- the lines about the first of the files, of which this was found
abbrev pub survey_lines : (json : Bool) → (names : List (List ℕ)) → List Finding → List ℕ
survey_lines json names findings = flat_map (λ about. survey_line json about.0 about.1) (zip names findings)

-- what comes after the lines about all files: their numbers, but in JSON nothing
abbrev pub last_lines : (json : Bool) → Tally → List ℕ
last_lines json tally = if json then [] else totals_text tally

-- the lines about the first of the files, and after those about all of them the last ones
abbrev pub survey_text : (json : Bool) → (names : List (List ℕ)) → List Finding → List ℕ
survey_text json names findings =
    survey_lines json names findings ++ (if nat_eq (length findings) (length names) then last_lines json (tally_of findings) else [])

-- ---- what was told

-- these are the findings of the first of the files with these names, one for each
pub record AreFirstFindings (plan : Plan) (contents : Contents) (names : List (List ℕ)) (findings : List Finding) : Type 0 where
  pub few : length findings ≤ length names
  pub of_files : AreOfFiles plan.find contents names findings

-- exactly the lines about these files were written, and this is their tally
pub record AreTold (plan : Plan) (contents : Contents) (names : List (List ℕ)) (old new : Option (List ℕ)) (tally : Tally) : Type 0 where
  pub findings : List Finding
  pub one_each : length findings ≡ length names
  pub of_files : AreOfFiles plan.find contents names findings
  pub written : Appends old new (survey_lines plan.json names findings)
  pub tally_is : tally ≡ tally_of findings

-- exactly the lines about the first of these files were written
pub record AreToldFirst (plan : Plan) (contents : Contents) (names : List (List ℕ)) (old new : Option (List ℕ)) : Type 0 where
  pub findings : List Finding
  pub are_first : AreFirstFindings plan contents names findings
  pub written : Appends old new (survey_lines plan.json names findings)

-- exactly the first `written` bytes of what is told of the first of these files were written
pub record IsCut (plan : Plan) (contents : Contents) (names : List (List ℕ)) (text : List Finding → List ℕ) (old new : Option (List ℕ)) (written : ℕ) : Type 0 where
  pub findings : List Finding
  pub are_first : AreFirstFindings plan contents names findings
  pub front : TookFront old new (text findings) written

-- a read failed of the list with this name, of which nothing is known
abbrev pub IsUnreadList : Contents → Option NamedList → Bor (List ℕ) → Type 0
IsUnreadList contents None name = ⊥
IsUnreadList contents (Some list) name = (name.now ≡ list.file) × (contents list.file ≡ unknown)

-- why not all of a text about these files was written: the output did not take or pass it on; a read of the list
-- failed; or out of memory
abbrev pub IsStopped : Plan → Contents → Option NamedList → (names : List (List ℕ)) (text : List Finding → List ℕ) (old new : Option (List ℕ)) (failed : Bool) → Failure → Type 0
IsStopped plan contents list names text old new failed Printing = ((written : ℕ) × IsCut plan contents names text old new written) × IsTrue failed
IsStopped plan contents list names text old new failed (Reading name) = AreToldFirst plan contents names old new × IsUnreadList contents list name
IsStopped plan contents list names text old new failed (Tool fault) = AreToldFirst plan contents names old new × (fault ≡ OutOfMemory 0)
IsStopped plan contents list names text old new failed _ = ⊥

-- the same of the lines about these files
abbrev pub AreUntold : Plan → Contents → Option NamedList → (names : List (List ℕ)) (old new : Option (List ℕ)) (failed : Bool) → Failure → Type 0
AreUntold plan contents list names = IsStopped plan contents list names (survey_lines plan.json names)

-- ---- all files

-- exactly the lines about the files that are given, and about those in the list, were written, and this is their tally
abbrev pub AreAllTold : Plan → Contents → (files : List (List ℕ)) → Option NamedList → (old new : Option (List ℕ)) → Tally → Type 0
AreAllTold plan contents files list old new tally =
    (names : List (List ℕ)) × AreNames contents files list names × AreTold plan contents names old new tally

-- the list, if there is one, is not open
abbrev pub IsNotOpen : Contents → Option NamedList → Failure → Type 0
IsNotOpen contents None failure = ⊥
IsNotOpen contents (Some list) failure = IsUnopenedList contents list failure

-- why not: the list is not open, and nothing was written; or not all lines were
abbrev pub AreNotAllTold : Plan → Contents → (files : List (List ℕ)) → Option NamedList → (old new : Option (List ℕ)) (failed : Bool) → Failure → Type 0
AreNotAllTold plan contents files list old new failed failure =
    (IsNotOpen contents list failure × Keeps old new)
    ⊎ ((names : List (List ℕ)) × AreNames contents files list names × AreUntold plan contents list names old new failed failure)

-- ---- after `survey`

-- the lines about the files with these names, and then the last ones, were printed, and this is the status
pub record IsSurveyed (plan : Plan) (contents : Contents) (names : List (List ℕ)) (printed : Printed) (status : ℕ) : Type 0 where
  pub findings : List Finding
  pub one_each : length findings ≡ length names
  pub of_files : AreOfFiles plan.find contents names findings
  pub written : Appends printed.old printed.new (survey_lines plan.json names findings ++ last_lines plan.json (tally_of findings))
  pub flushed : IsFlushed printed
  pub status_is : status ≡ tally_status (tally_of findings)

-- why not all lines about the files with these names, and the last ones, were printed
abbrev pub IsCutShort : Plan → Contents → Option NamedList → (names : List (List ℕ)) → Printed → Failure → Type 0
IsCutShort plan contents list names printed = IsStopped plan contents list names (survey_text plan.json names) printed.old printed.new printed.failed

-- all files were surveyed
abbrev pub AreSurveyed : SurveyOptions → Contents → (files : List (List ℕ)) → Option NamedList → Printed → (status : ℕ) → Type 0
AreSurveyed options contents files list printed status =
    (names : List (List ℕ)) × AreNames contents files list names × IsSurveyed (plan_of options files list) contents names printed status

-- why not: the list is not open, and nothing was printed; or not all lines were
abbrev pub IsSurveyFailure : SurveyOptions → Contents → (files : List (List ℕ)) → Option NamedList → Printed → Failure → Type 0
IsSurveyFailure options contents files list printed failure =
    (IsNotOpen contents list failure × IsNothing printed)
    ⊎ ((names : List (List ℕ)) × AreNames contents files list names × IsCutShort (plan_of options files list) contents list names printed failure)
