-- What is told of a failure after its line.
use Rattle.std.proofs.Common.{◌≡◌, ◌⊎◌, ◌∙◌, ◌+◌, ℕ, List, [], ◌++◌, length, length-append, append-nil, arith, inl, inr, refl, sym, subst, Bool, true, false, Option, Some, None, Result, Ok, Err, IsTrue}
use Rattle.std.proofs.Math.Seq.{take-append-add}
use Rattle.std.proofs.lemmas.List.{take-append-le}
use Rattle.hunk_base.specs.Streams.{WriteStopped}
use Rattle.hunk_base.specs.declared.fault.WriteFault.TheVariants.{Device}
use Rattle.std.specs.declared.alloc.Global.{Global}
use Rattle.hunk_link.specs.declared.refusal.LinkRefusal.{LinkRefusal}
use Rattle.std.proofs.KnownBytes.{Appends-nil, Appends-trans}
use Rattle.std.specs.Option.{IfSome}
use Rattle.std.specs.Io.KnownBytes.{Appends}
use Rattle.hunk_words.specs.FirstOffence.{FirstOffence}
use Rattle.hunk_base.specs.Longwords.{longwords, unfinished}
use Rattle.hunk_words.specs.declared.event.FileKind.{FileKind}
use Rattle.hunk_base.specs.declared.fault.Fault.{Fault}
use Rattle.hunk_words.proofs.FirstOffenceLemmas.{file-no-offence, first-one}
use Rattle.hunk_loadfile.specs.LoadHunk.{FileHunk}
use Rattle.hunk_files.specs.Explanation.{EndsWith, IsEnd, IsExplained}
use Rattle.hunk_addresses.specs.PlacesText.{places_text}
use Rattle.hunk_files.specs.declared.explanation.Explanation.{Explanation}
use Rattle.hunk_store.specs.Addresses.{HaveNumbers, AddressSource}
use Rattle.hunk_store.specs.Failure.{TellsLine}
use Rattle.hunk_store.specs.Store.{Contents}
use Rattle.hunk_store.specs.declared.failure.Failure.{Failure}
use Rattle.hunk_store.specs.declared.failure.Failure.TheVariants.{BadName, BadNumber, MapOverFile, Opening, Printing, Reading, SameFile, TooLong, TooManyAddresses, Tool, Writing}
use Rattle.hunk_commands.specs.Again.{IsOffence}
use Rattle.hunk_commands.specs.Explain.{AreLines, AreLinesOf, AreNoLines, ArePlaceLines, ArePlaceLinesOf, AreRefusalLinesOf, AreToldThen, IfAsked, OrUnexplained, TellsMore, TellsUnless, kind_read, sizes_of}
use Rattle.hunk_commands.specs.Unexplained.{unexplained_line}
use Rattle.hunk_commands.specs.declared.explain.Command.{Command}
use Rattle.hunk_commands.specs.declared.explain.Command.TheVariants as command
use Rattle.hunk_commands.specs.declared.unexplained.Unexplained.{Unexplained}
use Rattle.hunk_commands.specs.declared.unexplained.Unexplained.TheVariants.{OutOfMemory}
use Rattle.hunk_commands.specs.Reason.{reason_line}
use Rattle.hunk_tool.specs.declared.tool_fault.ToolFault.TheVariants as tool_fault
use Rattle.hunk_commands.proofs.FaultLemmas.{one_fault}

-- ---- what is given of a fault

-- bytes that are a file have no offence
pub none_offends : (kind : FileKind) (fault : Fault) (bytes : List ℕ) → IsExplained kind None bytes → IsOffence kind fault bytes → ⊥
none_offends kind fault bytes explained offends =
    file-no-offence kind (longwords bytes) fault.place fault.reason explained.1
    (subst (λ rest. FirstOffence kind (longwords bytes) (length rest) fault.place fault.reason) explained.0 offends)

-- bytes whose first offence is explained have no other
pub no_other_offends : (kind : FileKind) (fault : Fault) (e : Explanation) (bytes : List ℕ) → IsExplained kind (Some e) bytes → (e.fault ≡ fault → ⊥) → IsOffence kind fault bytes → ⊥
no_other_offends kind fault e bytes explained other offends =
    other (one_fault e.fault fault (first-one kind (longwords bytes) (length (unfinished bytes)) e.fault.place fault.place e.fault.reason fault.reason explained.offends offends))

-- an end is found only where the reader ended
pub EndsWith-found : (given : Option Explanation) (ended : Bool) → EndsWith given ended → IfSome given (λ e. IsEnd e.found → IsTrue ended)
EndsWith-found None ended ends = tt
EndsWith-found (Some e) ended ends = ends

-- ---- hunks beside addresses

place_lines : (contents : Contents) (source : AddressSource) (AreHunks : List FileHunk → Type 0) (loaded hunks : List FileHunk) (bases : List ℕ) → hunks ≡ loaded → AreHunks loaded → HaveNumbers contents source bases
    → ArePlaceLines contents source AreHunks (places_text (sizes_of hunks) bases)
place_lines contents source AreHunks loaded hunks bases same are numbers_are = record {
  bases = bases;
  numbers_are = numbers_are;
  holds = (hunks, subst AreHunks (sym same) are, refl);
}

-- ---- what is told

module _ {W : Type 0} (taken : W → Option (List ℕ)) (failed : W → Bool) where
  -- nothing was written, and there are no further lines
  pub tells_none : (w : W) → TellsMore taken failed w w AreNoLines
  tells_none w = record { more = []; is_more = refl; told = inl (Appends-nil (taken w), refl) }

  -- nothing was written, and that may be
  pub tells_nothing : (w : W) (Holds : List ℕ → Type 0) → Holds [] → TellsMore taken failed w w Holds
  tells_nothing w Holds holds = record { more = []; is_more = holds; told = inl (Appends-nil (taken w), refl) }

  -- nothing was written, since a write had failed before
  pub tells_stopped : (w : W) (Holds : List ℕ → Type 0) (lines : List ℕ) → Holds lines → IsTrue (failed w) → TellsMore taken failed w w Holds
  tells_stopped w Holds lines holds failing = record {
    more = lines;
    is_more = holds;
    told = inr (0, (record { within = omega arith; taken = Appends-nil (taken w) }, failing));
  }

  pub tells_exactly : (old new : W) (Holds : List ℕ → Type 0) (lines : List ℕ) → Holds lines → TellsLine taken failed old new lines → TellsMore taken failed old new Holds
  tells_exactly old new Holds lines holds told = record { more = lines; is_more = holds; told = told }

  -- lines were told, or a line that tells why they are not
  pub tells_or_why : (old between new : W) (Holds : List ℕ → Type 0) (Why : Unexplained → Type 0) (told : Result (Unit {0}) Unexplained)
      → TellsUnless taken failed old between Holds Why told → AreToldThen taken failed between new told → TellsMore taken failed old new (OrUnexplained Why Holds)
  tells_or_why old between new Holds Why (Ok done) tells same =
      subst (λ w. TellsMore taken failed old w (OrUnexplained Why Holds)) (sym same) (record { more = tells.more; is_more = inl tells.is_more; told = tells.told })
  tells_or_why old between new Holds Why (Err why) (holds, same) told =
      record { more = unexplained_line why; is_more = inr (why, holds, refl); told = subst (λ w. TellsLine taken failed w new (unexplained_line why)) same told }

  -- the lines about hunks beside their addresses
  pub tells_places : (old new : W) (contents : Contents) (source : AddressSource) (AreHunks : List FileHunk → Type 0) (loaded hunks : List FileHunk) (bases : List ℕ)
      → hunks ≡ loaded → AreHunks loaded → HaveNumbers contents source bases → TellsLine taken failed old new (places_text (sizes_of hunks) bases) → TellsMore taken failed old new (ArePlaceLines contents source AreHunks)
  tells_places old new contents source AreHunks loaded hunks bases same are numbers_are told =
      tells_exactly old new (ArePlaceLines contents source AreHunks) (places_text (sizes_of hunks) bases) (place_lines contents source AreHunks loaded hunks bases same are numbers_are) told

  -- a line, and nothing after it
  pub tells_line_alone : (old new : W) (line : List ℕ) → TellsLine taken failed old new line → TellsLine taken failed old new (line ++ [])
  tells_line_alone old new line told = subst (TellsLine taken failed old new) (sym (append-nil line)) told

  -- a line that was written in full, and what was told after it
  tells_both : (old between new : W) (line more : List ℕ) → Appends (taken old) (taken between) line × (failed between ≡ failed old)
      → TellsLine taken failed between new more → TellsLine taken failed old new (line ++ more)
  tells_both old between new line more whole (inl told) = inl (Appends-trans (taken old) (taken between) (taken new) line more whole.0 told.0, told.1 ∙ whole.1)
  tells_both old between new line more whole (inr (written, stopped)) =
      inr (
        length line + written,
        (
          record {
            within = omega (arith, stopped.0.within, length-append line more);
            taken = subst (Appends (taken old) (taken new)) (sym (take-append-add line more written))
                (Appends-trans (taken old) (taken between) (taken new) line _ whole.0 stopped.0.taken);
          },
          stopped.1,
        ),
      )

  -- this was told after a line, and nothing if a write of the line failed
  abbrev pub IsAfter : (between new : W) (Holds : List ℕ → Type 0) → Type 0
  IsAfter between new Holds = TellsMore taken failed between new Holds × (IsTrue (failed between) → new ≡ between)

  -- writing stopped in a line, and so before what comes after it
  tells_front : (old new : W) (line more : List ℕ) → (written : ℕ) × WriteStopped taken failed old new line (Device written) → TellsLine taken failed old new (line ++ more)
  tells_front old new line more (written, (front, failing)) = inr (
    written,
    (
      record {
        within = omega (arith, front.within, length-append line more);
        taken = subst (Appends (taken old) (taken new)) (sym (take-append-le written line more front.within)) front.taken;
      },
      failing,
    ),
  )

  -- the line, and what was told after it
  pub tells_after : (old between new : W) (line : List ℕ) (Holds : List ℕ → Type 0) → TellsLine taken failed old between line
      → IsAfter between new Holds → (more : List ℕ) × Holds more × TellsLine taken failed old new (line ++ more)
  unfolding tells_both tells_front
  tells_after old between new line Holds (inl whole) after = (after.0.more, after.0.is_more, tells_both old between new line after.0.more whole after.0.told)
  tells_after old between new line Holds (inr stopped) after =
      (after.0.more, after.0.is_more, subst (λ w. TellsLine taken failed old w (line ++ after.0.more)) (sym (after.1 stopped.1.1)) (tells_front old between line after.0.more stopped))

  -- what was told if it was asked for
  pub after_asked : (explain : Bool) (Holds : Failure → List ℕ → Type 0) (failure : Failure) (between new : W) → explain ≡ true → IsAfter between new (Holds failure) → IsAfter between new (IfAsked explain Holds failure)
  after_asked explain Holds failure between new asked after = subst (λ b. IsAfter between new (IfAsked b Holds failure)) (sym asked) after

  -- nothing was told, since it was not asked for
  pub after_nothing : (explain : Bool) (Holds : Failure → List ℕ → Type 0) (failure : Failure) (between : W) → explain ≡ false → IsAfter between between (IfAsked explain Holds failure)
  unfolding tells_none
  after_nothing explain Holds failure between unasked = subst (λ b. IsAfter between between (IfAsked b Holds failure)) (sym unasked) (tells_none between, λ failing. refl)

-- what holds of this command, and of those, holds of a command that is one of them
pub of_either : {A : Type 0} (Holds : Command → Type 0) (command one : Command) (others : A → Command) → (command ≡ one) ⊎ ((a : A) × (command ≡ others a))
    → Holds one → ((a : A) → Holds (others a)) → Holds command
of_either Holds command one others (inl is) here there = subst Holds (sym is) here
of_either Holds command one others (inr (a, is)) here there = subst Holds (sym is) (there a)

-- there are no further lines, asked for or not
pub none_asked : (explain : Bool) (Holds : Failure → List ℕ → Type 0) (failure : Failure) → Holds failure [] → IfAsked explain Holds failure []
none_asked true Holds failure none = none
none_asked false Holds failure none = refl

-- memory may have run out, which a line tells
exhausted : (Why : Unexplained → Type 0) (Holds : List ℕ → Type 0) → Why OutOfMemory → (more : List ℕ) × OrUnexplained Why Holds more
exhausted Why Holds why = (unexplained_line OutOfMemory, inr (OutOfMemory, why, refl))

-- there are lines for units that do not link
some_refusals : (contents : Contents) (command : Command) (files : List (List ℕ)) (refusal : LinkRefusal Global) → (more : List ℕ) × AreRefusalLinesOf contents command files refusal more
some_refusals contents command.Link files refusal = exhausted _ _ tt
some_refusals contents (command.Image addresses) files refusal = exhausted _ _ tt
some_refusals contents (command.Load addresses) files refusal = ([], refl)
some_refusals contents command.LoadFile files refusal = ([], refl)
some_refusals contents command.Text files refusal = ([], refl)

-- there are lines for hunks that cannot be placed
some_places : (contents : Contents) (command : Command) (files : List (List ℕ)) → (more : List ℕ) × ArePlaceLinesOf contents command files more
some_places contents command.Link files = ([], refl)
some_places contents (command.Image addresses) files = exhausted _ _ (inl tt)
some_places contents (command.Load addresses) files = exhausted _ _ (inl tt)
some_places contents command.LoadFile files = ([], refl)
some_places contents command.Text files = ([], refl)

-- and for each failure
some_lines : (contents : Contents) (kind_of : List ℕ → FileKind) (AreRefusals : LinkRefusal Global → List ℕ → Type 0) (ArePlaces : List ℕ → Type 0) (files : List (List ℕ)) (failure : Failure)
    → ((refusal : LinkRefusal Global) → (more : List ℕ) × AreRefusals refusal more) → (more : List ℕ) × ArePlaces more → (more : List ℕ) × AreLines contents kind_of AreRefusals ArePlaces files failure more
some_lines contents kind_of AreRefusals ArePlaces files (BadNumber addresses index) refusals places = ([], refl)
some_lines contents kind_of AreRefusals ArePlaces files (TooManyAddresses name) refusals places = ([], refl)
some_lines contents kind_of AreRefusals ArePlaces files (TooLong name) refusals places = ([], refl)
some_lines contents kind_of AreRefusals ArePlaces files (BadName list index) refusals places = ([], refl)
some_lines contents kind_of AreRefusals ArePlaces files (Opening name reason) refusals places = (reason_line reason, refl)
some_lines contents kind_of AreRefusals ArePlaces files (Reading name) refusals places = ([], inl refl)
some_lines contents kind_of AreRefusals ArePlaces files (Writing name) refusals places = ([], refl)
some_lines contents kind_of AreRefusals ArePlaces files (SameFile name) refusals places = ([], refl)
some_lines contents kind_of AreRefusals ArePlaces files (MapOverFile name) refusals places = ([], refl)
some_lines contents kind_of AreRefusals ArePlaces files Printing refusals places = ([], refl)
some_lines contents kind_of AreRefusals ArePlaces files (Tool (tool_fault.Input file fault)) refusals places = exhausted _ _ tt
some_lines contents kind_of AreRefusals ArePlaces files (Tool (tool_fault.InputDevice file)) refusals places = ([], inl refl)
some_lines contents kind_of AreRefusals ArePlaces files (Tool (tool_fault.Link refusal)) refusals places = refusals refusal
some_lines contents kind_of AreRefusals ArePlaces files (Tool (tool_fault.Place fault)) refusals places = places
some_lines contents kind_of AreRefusals ArePlaces files (Tool (tool_fault.Output written)) refusals places = ([], refl)
some_lines contents kind_of AreRefusals ArePlaces files (Tool (tool_fault.OutOfMemory written)) refusals places = ([], refl)

-- nothing is told of any failure once a write has failed
pub tells_no_failure : {W : Type 0} (taken : W → Option (List ℕ)) (failed : W → Bool) (w : W) (contents : Contents) (command : Command) (files : List (List ℕ)) (failure : Failure) → IsTrue (failed w)
    → TellsMore taken failed w w (AreLinesOf contents command files failure)
unfolding some_places some_refusals some_lines exhausted
tells_no_failure taken failed w contents command files failure failing =
    let lines = some_lines contents (kind_read command) (AreRefusalLinesOf contents command files) (ArePlaceLinesOf contents command files) files failure (some_refusals contents command files) (some_places contents command files) in
    tells_stopped taken failed w (AreLinesOf contents command files failure) lines.0 lines.1 failing
