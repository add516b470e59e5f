-- The lines of a survey, one after another, and where they stopped.
use Rattle.std.proofs.Common.{◌≡◌, ◌∙◌, ◌+◌, ◌<◌, ◌≤◌, zero, suc, ap, arith, Bool, eq-eqb, if◌then◌else◌, ℕ, length, length-append, List, [], ◌∷◌, ◌++◌, Option, None, Some, IsTrue, subst, sym, refl, take, append-nil, drop, get_or}
use Rattle.std.specs.Borrow.{Bor}
use Rattle.std.specs.Prelude.{IfErr, OnErr, Result, Ok, Err}
use Rattle.std.specs.Io.KnownBytes.{Appends, Keeps}
use Rattle.std.specs.List.{All, flat_map, zip}
use Rattle.std.proofs.Math.Seq.{take-append-add, take-length}
use Rattle.std.proofs.lemmas.List.{take-append-drop, take-append-le}
use Rattle.std.proofs.lemmas.List.Elements.{All-nil}
use Rattle.std.proofs.KnownBytes.{Appends-kept, Appends-trans}
use Rattle.hunk_base.specs.Streams.{TookFront}
use Rattle.hunk_survey.specs.Finding.{IsOfFile, content_of}
use Rattle.hunk_survey.proofs.SurveyLemmas.{AreOfFiles-more, lines-more}
use Rattle.hunk_survey.specs.Tally.{tally_of, tally_status}
use Rattle.hunk_survey.specs.declared.finding.Finding.{Finding}
use Rattle.hunk_survey.specs.declared.tally.Tally.{Tally}
use Rattle.hunk_tool.specs.Inputs.{file_names}
use Rattle.hunk_store.specs.FileList.{NamedList}
use Rattle.hunk_store.specs.Output.{IsFlushed, Printed}
use Rattle.hunk_store.specs.Store.{Contents}
use Rattle.hunk_store.specs.declared.failure.Failure.{Failure}
use Rattle.hunk_store.specs.declared.failure.Failure.TheVariants.{BadName, BadNumber, MapOverFile, Opening, Printing, Reading, SameFile, TooLong, TooManyAddresses, Tool, Writing}
use Rattle.hunk_commands.specs.Survey.{AreFirstFindings, AreTold, AreToldFirst, AreUntold, IsCut, IsCutShort, IsSurveyed, last_lines, survey_line, survey_lines, survey_text}
use Rattle.hunk_commands.specs.declared.survey.Plan.{Plan}

-- ---- the front of a text

-- the first bytes of a text are the first of any that begins with it
front-of : (old new : Option (List ℕ)) (text more : List ℕ) (written : ℕ) → TookFront old new text written → TookFront old new (text ++ more) written
front-of old new text more written front = record {
  within = omega (arith, front.within, length-append text more);
  taken = subst (Appends old new) (sym (take-append-le written text more front.within)) front.taken;
}

-- the whole of a text
front-whole : (old new : Option (List ℕ)) (text : List ℕ) → Appends old new text → TookFront old new text (length text)
front-whole old new text whole = record { within = omega arith; taken = subst (Appends old new) (sym (take-length text)) whole }

-- writing stopped in what came after a text
front-after : (old between new : Option (List ℕ)) (text more : List ℕ) (written : ℕ) → Appends old between text → TookFront between new more written → TookFront old new (text ++ more) (length text + written)
front-after old between new text more written whole front = record {
  within = omega (arith, front.within, length-append text more);
  taken = subst (Appends old new) (sym (take-append-add text more written)) (Appends-trans old between new text (take written more) whole front.taken);
}

-- ---- names

-- the name of one more file
pub names-next : (files : List (Bor (List ℕ))) (none : Bor (List ℕ)) (index : ℕ) → index < length files
    → take index (file_names files) ++ (get_or files index none).now ∷ [] ≡ take (index + 1) (file_names files)
names-next files none index within = names-after files none index within ∙ ap (λ count. take count (file_names files)) (let one : suc index ≡ index + 1 = omega arith in one)
  where
    names-after : (files : List (Bor (List ℕ))) (none : Bor (List ℕ)) (index : ℕ) → index < length files
        → take index (file_names files) ++ (get_or files index none).now ∷ [] ≡ take (suc index) (file_names files)
    names-after [] none index within = absurd (omega (arith, within))
    names-after (file ∷ files) none zero within = refl
    names-after (file ∷ files) none (suc index) within = ap (λ rest. file.now ∷ rest) (names-after files none index (omega (arith, within)))

-- ---- findings, with the names of their files

-- names after those of the findings change nothing
zip-longer : (names more : List (List ℕ)) (findings : List Finding) → length findings ≤ length names → zip (names ++ more) findings ≡ zip names findings
zip-longer [] [] [] few = refl
zip-longer [] (name ∷ more) [] few = refl
zip-longer [] more (finding ∷ findings) few = absurd (omega (arith, few))
zip-longer (name ∷ names) more [] few = refl
zip-longer (name ∷ names) more (finding ∷ findings) few = ap (λ rest. (name, finding) ∷ rest) (zip-longer names more findings (omega (arith, few)))

module _ (plan : Plan) (contents : Contents) where
  abbrev Fits : List ℕ × Finding → Type 0
  Fits about = IsOfFile plan.find (content_of contents about.0) about.1

  abbrev Line : List ℕ × Finding → List ℕ
  Line about = survey_line plan.json about.0 about.1

  first-longer : (names more : List (List ℕ)) (findings : List Finding) → AreFirstFindings plan contents names findings → AreFirstFindings plan contents (names ++ more) findings
  first-longer names more findings first = record {
    few = omega (arith, first.few, length-append names more);
    of_files = subst (All Fits) (sym (zip-longer names more findings first.few)) first.of_files;
  }

  lines-longer : (names more : List (List ℕ)) (findings : List Finding) → length findings ≤ length names → survey_lines plan.json (names ++ more) findings ≡ survey_lines plan.json names findings
  lines-longer names more findings few = ap (flat_map Line) (zip-longer names more findings few)

  -- ---- one line after another

  -- nothing was told yet
  pub told-none : (now : Option (List ℕ)) → AreTold plan contents [] now now (tally_of [])
  told-none None = record { findings = []; one_each = refl; of_files = All-nil Fits; written = tt; tally_is = refl }
  told-none (Some bytes) = record { findings = []; one_each = refl; of_files = All-nil Fits; written = sym (append-nil bytes); tally_is = refl }

  -- the line about one more file was written
  pub told-more : (names : List (List ℕ)) (name : List ℕ) (finding : Finding) (start between now : Option (List ℕ)) (tally tally_then : Tally)
      → AreTold plan contents names start between tally → IsOfFile plan.find (content_of contents name) finding → Appends between now (survey_line plan.json name finding)
      → ((findings : List Finding) → tally ≡ tally_of findings → tally_then ≡ tally_of (findings ++ finding ∷ []))
      → AreTold plan contents (names ++ name ∷ []) start now tally_then
  told-more names name finding start between now tally tally_then told is written counts = record {
    findings = told.findings ++ finding ∷ [];
    one_each = omega (arith, told.one_each, length-append told.findings (finding ∷ []), length-append names (name ∷ []));
    of_files = AreOfFiles-more plan.find contents names told.findings name finding told.one_each told.of_files is;
    written = subst (Appends start now) (sym (lines-more (survey_line plan.json) names told.findings name finding told.one_each))
        (Appends-trans start between now (survey_lines plan.json names told.findings) (survey_line plan.json name finding) told.written written);
    tally_is = counts told.findings told.tally_is;
  }

  -- a flush keeps what was told
  pub told-kept : (names : List (List ℕ)) (start between now : Option (List ℕ)) (tally : Tally) → AreTold plan contents names start between tally → Keeps between now → AreTold plan contents names start now tally
  told-kept names start between now tally told kept = record {
    findings = told.findings;
    one_each = told.one_each;
    of_files = told.of_files;
    written = Appends-kept start between now (survey_lines plan.json names told.findings) told.written kept;
    tally_is = told.tally_is;
  }

  -- the lines that were told are those about the first files
  pub told-first : (names more : List (List ℕ)) (start now : Option (List ℕ)) (tally : Tally) → AreTold plan contents names start now tally → AreToldFirst plan contents (names ++ more) start now
  told-first names more start now tally told = record {
    findings = told.findings;
    are_first = first-longer names more told.findings (record { few = omega (arith, told.one_each); of_files = told.of_files });
    written = subst (Appends start now) (sym (lines-longer names more told.findings (omega (arith, told.one_each)))) told.written;
  }

  -- and about all files
  pub told-whole : (names : List (List ℕ)) (start now : Option (List ℕ)) (tally : Tally) → AreTold plan contents names start now tally → AreToldFirst plan contents names start now
  told-whole names start now tally told = record {
    findings = told.findings;
    are_first = record { few = omega (arith, told.one_each); of_files = told.of_files };
    written = told.written;
  }

  -- ---- where they stopped

  -- the line about the next file was not written
  pub cut-in-line : (names : List (List ℕ)) (name : List ℕ) (finding : Finding) (start between now : Option (List ℕ)) (tally : Tally) (written : ℕ)
      → AreTold plan contents names start between tally → IsOfFile plan.find (content_of contents name) finding → TookFront between now (survey_line plan.json name finding) written
      → (total : ℕ) × IsCut plan contents (names ++ name ∷ []) (survey_lines plan.json (names ++ name ∷ [])) start now total
  cut-in-line names name finding start between now tally written told is front = (
    length (survey_lines plan.json names told.findings) + written,
    record {
      findings = told.findings ++ finding ∷ [];
      are_first = record {
        few = omega (arith, told.one_each, length-append told.findings (finding ∷ []), length-append names (name ∷ []));
        of_files = AreOfFiles-more plan.find contents names told.findings name finding told.one_each told.of_files is;
      };
      front = subst (λ text. TookFront start now text (length (survey_lines plan.json names told.findings) + written))
          (sym (lines-more (survey_line plan.json) names told.findings name finding told.one_each))
          (front-after start between now (survey_lines plan.json names told.findings) (survey_line plan.json name finding) written told.written front);
    },
  )

  -- everything was written, and not passed on
  pub cut-at-flush : (names : List (List ℕ)) (start now : Option (List ℕ)) (tally : Tally) → AreTold plan contents names start now tally
      → (total : ℕ) × IsCut plan contents names (survey_lines plan.json names) start now total
  cut-at-flush names start now tally told = (
    length (survey_lines plan.json names told.findings),
    record {
      findings = told.findings;
      are_first = record { few = omega (arith, told.one_each); of_files = told.of_files };
      front = front-whole start now (survey_lines plan.json names told.findings) told.written;
    },
  )

  -- the output did not pass them on, and says so
  pub untold-at-flush : {X : Type 0} (list : Option NamedList) (names : List (List ℕ)) (start now : Option (List ℕ)) (failed : Bool) (result : Result X Failure)
      → OnErr result (IsTrue failed) → IfErr result (λ failure. failure ≡ Printing)
      → ((total : ℕ) × IsCut plan contents names (survey_lines plan.json names) start now total) → IfErr result (AreUntold plan contents list names start now failed)
  untold-at-flush list names start now failed (Ok done) failing is cut = tt
  untold-at-flush list names start now failed (Err failure) failing is cut = subst (AreUntold plan contents list names start now failed) (sym is) (cut, failing)

  cut-longer : (names more : List (List ℕ)) (start now : Option (List ℕ)) (written : ℕ)
      → IsCut plan contents names (survey_lines plan.json names) start now written → IsCut plan contents (names ++ more) (survey_lines plan.json (names ++ more)) start now written
  cut-longer names more start now written cut = record {
    findings = cut.findings;
    are_first = first-longer names more cut.findings cut.are_first;
    front = subst (λ text. TookFront start now text written) (sym (lines-longer names more cut.findings cut.are_first.few)) cut.front;
  }

  toldfirst-longer : (names more : List (List ℕ)) (start now : Option (List ℕ)) → AreToldFirst plan contents names start now → AreToldFirst plan contents (names ++ more) start now
  toldfirst-longer names more start now told = record {
    findings = told.findings;
    are_first = first-longer names more told.findings told.are_first;
    written = subst (Appends start now) (sym (lines-longer names more told.findings told.are_first.few)) told.written;
  }

  -- it stopped in the lines about the first of more files
  pub untold-longer : (list : Option NamedList) (names more : List (List ℕ)) (start now : Option (List ℕ)) (failed : Bool) (failure : Failure)
      → AreUntold plan contents list names start now failed failure → AreUntold plan contents list (names ++ more) start now failed failure
  untold-longer list names more start now failed Printing stopped = ((stopped.0.0, cut-longer names more start now stopped.0.0 stopped.0.1), stopped.1)
  untold-longer list names more start now failed (Reading name) stopped = (toldfirst-longer names more start now stopped.0, stopped.1)
  untold-longer list names more start now failed (Tool fault) stopped = (toldfirst-longer names more start now stopped.0, stopped.1)
  untold-longer list names more start now failed (BadNumber found index) stopped = absurd stopped
  untold-longer list names more start now failed (BadName found index) stopped = absurd stopped
  untold-longer list names more start now failed (TooManyAddresses file) stopped = absurd stopped
  untold-longer list names more start now failed (TooLong file) stopped = absurd stopped
  untold-longer list names more start now failed (Opening file reason) stopped = absurd stopped
  untold-longer list names more start now failed (Writing file) stopped = absurd stopped
  untold-longer list names more start now failed (SameFile file) stopped = absurd stopped
  untold-longer list names more start now failed (MapOverFile file) stopped = absurd stopped

  -- it stopped after the line about one of the files
  pub untold-next : (list : Option NamedList) (files : List (Bor (List ℕ))) (none : Bor (List ℕ)) (index : ℕ) (start now : Option (List ℕ)) (failed : Bool) (failure : Failure) → index < length files
      → AreUntold plan contents list (take index (file_names files) ++ (get_or files index none).now ∷ []) start now failed failure → AreUntold plan contents list (file_names files) start now failed failure
  untold-next list files none index start now failed failure within stopped =
      let names = file_names files in
      let front = subst (λ front. AreUntold plan contents list front start now failed failure) (names-next files none index within) stopped in
      subst (λ all. AreUntold plan contents list all start now failed failure) (take-append-drop (index + 1) names)
      (untold-longer list (take (index + 1) names) (drop (index + 1) names) start now failed failure front)

  -- the lines stopped, so all that is told did
  pub untold-short : (list : Option NamedList) (names : List (List ℕ)) (printed : Printed) (failure : Failure)
      → AreUntold plan contents list names printed.old printed.new printed.failed failure → IsCutShort plan contents list names printed failure
  untold-short list names printed Printing stopped =
      let cut = stopped.0.1 in (
        (
          stopped.0.0,
          record {
            findings = cut.findings;
            are_first = cut.are_first;
            front = front-of printed.old printed.new (survey_lines plan.json names cut.findings) _ stopped.0.0 cut.front;
          },
        ),
        stopped.1,
      )
  untold-short list names printed (Reading name) stopped = stopped
  untold-short list names printed (Tool fault) stopped = stopped
  untold-short list names printed (BadNumber found index) stopped = absurd stopped
  untold-short list names printed (BadName found index) stopped = absurd stopped
  untold-short list names printed (TooManyAddresses file) stopped = absurd stopped
  untold-short list names printed (TooLong file) stopped = absurd stopped
  untold-short list names printed (Opening file reason) stopped = absurd stopped
  untold-short list names printed (Writing file) stopped = absurd stopped
  untold-short list names printed (SameFile file) stopped = absurd stopped
  untold-short list names printed (MapOverFile file) stopped = absurd stopped

  -- ---- the last lines

  -- where something was found of each file, the last lines come after the others
  text-of-all : (names : List (List ℕ)) (findings : List Finding) → length findings ≡ length names
      → survey_text plan.json names findings ≡ survey_lines plan.json names findings ++ last_lines plan.json (tally_of findings)
  text-of-all names findings all = ap (λ is. survey_lines plan.json names findings ++ (if is then last_lines plan.json (tally_of findings) else [])) (eq-eqb (length findings) (length names) all)

  module _ (names : List (List ℕ)) (printed : Printed) (tally : Tally) (middle : Option (List ℕ)) (told : AreTold plan contents names printed.old middle tally) where
    abbrev last : List ℕ
    last = last_lines plan.json (tally_of told.findings)

    -- all lines were written, and the output passed them on
    pub surveyed : (end : Option (List ℕ)) (status : ℕ) → Appends middle end (last_lines plan.json tally) → Keeps end printed.new → IsFlushed printed
        → status ≡ tally_status tally → IsSurveyed plan contents names printed status
    surveyed end status written kept flushed is = record {
      findings = told.findings;
      one_each = told.one_each;
      of_files = told.of_files;
      written = Appends-kept printed.old end printed.new (survey_lines plan.json names told.findings ++ last)
          (Appends-trans printed.old middle end (survey_lines plan.json names told.findings) last told.written (subst (λ t. Appends middle end (last_lines plan.json t)) told.tally_is written)) kept;
      flushed = flushed;
      status_is = is ∙ ap tally_status told.tally_is;
    }

    -- the last lines were not written
    pub cut-in-last : (list : Option NamedList) (written : ℕ) → TookFront middle printed.new (last_lines plan.json tally) written → IsTrue printed.failed → IsCutShort plan contents list names printed Printing
    cut-in-last list written front failing = (
      (
        length (survey_lines plan.json names told.findings) + written,
        record {
          findings = told.findings;
          are_first = record { few = omega (arith, told.one_each); of_files = told.of_files };
          front = subst (λ text. TookFront printed.old printed.new text (length (survey_lines plan.json names told.findings) + written)) (sym (text-of-all names told.findings told.one_each))
              (front-after printed.old middle printed.new _ _ written told.written (subst (λ t. TookFront middle printed.new (last_lines plan.json t) written) told.tally_is front));
        },
      ),
      failing,
    )

    -- everything was written, and the output did not pass it on
    pub cut-at-end : (list : Option NamedList) (end : Option (List ℕ)) → Appends middle end (last_lines plan.json tally) → Keeps end printed.new → IsTrue printed.failed → IsCutShort plan contents list names printed Printing
    cut-at-end list end written kept failing =
        let whole = Appends-kept printed.old end printed.new (survey_lines plan.json names told.findings ++ last)
        (Appends-trans printed.old middle end (survey_lines plan.json names told.findings) last told.written (subst (λ t. Appends middle end (last_lines plan.json t)) told.tally_is written)) kept in (
          (
            length (survey_lines plan.json names told.findings ++ last),
            record {
              findings = told.findings;
              are_first = record { few = omega (arith, told.one_each); of_files = told.of_files };
              front = subst (λ text. TookFront printed.old printed.new text (length (survey_lines plan.json names told.findings ++ last))) (sym (text-of-all names told.findings told.one_each))
                  (front-whole printed.old printed.new _ whole);
            },
          ),
          failing,
        )
