-- What was put in the places of OUT and MAP, and why it was not.
use Rattle.std.proofs.Common.{◌≡◌, ◌∙◌, ap, Bool, Bor, Err, IfErr, inl, inr, List, Ok, OnErr, OnOk, Option, refl, Result, subst, sym, ℕ}
use Rattle.std.specs.declared.alloc.Global.{Global}
use Rattle.std.specs.Io.KnownBytes.{Appends}
use Rattle.hunk_base.specs.Name.{bytes_of}
use Rattle.hunk_base.specs.Streams.{WroteAll, WroteText}
use Rattle.hunk_loadfile.specs.LoadFile.{IsLoadOf}
use Rattle.hunk_loadfile.specs.LoadHunk.{FileHunk}
use Rattle.hunk_loadfile.specs.Rules.{IsLoadFile}
use Rattle.hunk_loadfile.specs.WrittenForm.{IsShortEnough, written_in}
use Rattle.hunk_base.specs.declared.fault.WriteFault.{WriteFault}
use Rattle.hunk_base.specs.declared.fault.WriteFault.TheVariants as write_fault
use Rattle.hunk_base.specs.declared.fault.WriteFault.TheVariants.{Device}
use Rattle.hunk_objects.specs.ProgramUnit.{ObjectUnit}
use Rattle.hunk_tool.specs.FileSystem.{FileContent}
use Rattle.hunk_tool.specs.FileSystem.FileContent.{unknown}
use Rattle.hunk_tool.specs.Inputs.{HaveRead}
use Rattle.hunk_tool.specs.Link.{DoLink, IsLinkCutShort, IsLinkFault, IsLinked, LinkTo, Taken}
use Rattle.hunk_tool.specs.LinkOptions.{form_of, trimmed_if}
use Rattle.hunk_tool.specs.LinkedUnits.{linked_files}
use Rattle.hunk_origins.specs.Map.{LinkFiles, map_text}
use Rattle.hunk_tool.specs.ObjectFiles.{FileUnit, units_of}
use Rattle.hunk_tool.specs.declared.link_options.LinkOptions.{LinkOptions}
use Rattle.hunk_tool.specs.declared.tool_fault.ToolFault.{ToolFault}
use Rattle.hunk_tool.specs.declared.tool_fault.ToolFault.TheVariants as tool_fault
use Rattle.hunk_tool.proofs.LinkLemmas.{linked_bytes-are_load}
use Rattle.hunk_origins.proofs.LinkedOriginsLemmas.{map_text-linked}
use Rattle.hunk_store.specs.Inputs.{OfFiles, OfWholeFiles}
use Rattle.hunk_store.specs.Store.{AreUnchanged, Contents, HasRun, IsBegun, IsCauseOf, IsReplaced, IsUnplaced, IsWriteFault, run_of}
use Rattle.hunk_store.specs.declared.failure.Failure.{Failure}
use Rattle.hunk_store.specs.declared.failure.Failure.TheVariants.{BadName, BadNumber, MapOverFile, Opening, Printing, Reading, SameFile, TooLong, TooManyAddresses, Tool, Writing}
use Rattle.hunk_store.proofs.InputsLemmas.{OfFiles-weaker, OfWholeFiles-weaker}
use Rattle.hunk_commands.specs.Link.{DoLinkAll, DoLinkFiles, DoLinkTo, HasMap, HasRunFault, IsLinkFailure, IsLinkedWithMap, IsMade, IsMapFailure, IsMapped, IsUnmapped, IsUnwritten, IsWrittenOut, map_failure}

module _ (globals : Bool) (options : LinkOptions) (contents : Contents) (names : List (List ℕ)) (out : List ℕ) (taken : Taken) where
  -- a write of the run failed, so the files link
  links_where_written : (fault : ToolFault Global) → IsWriteFault fault → OfFiles contents names (λ inputs. IsLinkFault globals options inputs taken fault) → DoLinkAll globals options.strip contents names
  links_where_written (tool_fault.Output written) is of =
      OfWholeFiles-weaker contents names (IsLinkCutShort globals options taken.old taken.new written) (λ files. (units : List ObjectUnit) × DoLink globals options.strip files units) (λ files cut. (cut.units, cut.link))
      (OfFiles-weaker contents names (λ inputs. IsLinkFault {A = Global} globals options inputs taken (tool_fault.Output written)) (λ inputs. HaveRead inputs (IsLinkCutShort globals options taken.old taken.new written)) (λ inputs why. why.0) of)
  links_where_written (tool_fault.Input file fault) is of = absurd is
  links_where_written (tool_fault.InputDevice file) is of = absurd is
  links_where_written (tool_fault.Link refusal) is of = absurd is
  links_where_written (tool_fault.Place fault) is of = absurd is
  links_where_written (tool_fault.OutOfMemory written) is of = absurd is

  has_run_fault : (fault : ToolFault Global) → OfFiles contents names (λ inputs. IsLinkFault globals options inputs taken fault) → (IsWriteFault fault → contents out ≡ unknown) → HasRunFault globals options contents names out (Tool fault)
  has_run_fault fault of device = (OfFiles-weaker contents names (λ inputs. IsLinkFault globals options inputs taken fault) (λ inputs. (taken : Taken) × IsLinkFault globals options inputs taken fault) (λ inputs why. (taken, why)) of, device)

  -- why `link` failed, from what its run returned
  pub IsLinkFailure-run : (failure : Failure) (ran : Result (Unit {0}) (ToolFault Global)) → OnOk ran (OfWholeFiles contents names (IsLinked globals options taken.old taken.new))
      → IfErr ran (λ fault. OfFiles contents names (λ inputs. IsLinkFault globals options inputs taken fault)) → IsCauseOf ran (contents out) out failure → IsLinkFailure globals options contents names out failure
  unfolding links_where_written has_run_fault
  IsLinkFailure-run failure (Ok done) linked why unplaced =
      inr (inr (OfWholeFiles-weaker contents names (IsLinked globals options taken.old taken.new) (λ files. (units : List ObjectUnit) × DoLink globals options.strip files units) (λ files made. (made.units, made.link)) linked, unplaced))
  IsLinkFailure-run failure (Err fault) linked why (inl cause) = inr (inl (subst (HasRunFault globals options contents names out) (sym cause.0) (has_run_fault fault why cause.1)))
  IsLinkFailure-run failure (Err fault) linked why (inr cause) = inr (inr (links_where_written fault cause.0 why, cause.1))

  -- the load file that a run made was put in the place of OUT
  pub IsMade-run : (contents_then : Contents) (result : Result (Unit {0}) Failure) (ran : Result (Unit {0}) (ToolFault Global)) → IsBegun (contents out) taken.old
      → OnOk ran (OfWholeFiles contents names (IsLinked globals options taken.old taken.new)) → OnOk result (HasRun ran) → OnOk result (IsReplaced out taken.new contents contents_then)
      → OnOk result (IsMade globals options contents names out contents_then)
  IsMade-run contents_then (Err failure) ran begun linked done replaced = tt
  IsMade-run contents_then (Ok unit) (Err fault) begun linked done replaced = absurd done
  IsMade-run contents_then (Ok unit) (Ok end) begun linked done replaced =
      record { start = taken.old; taken = taken.new; begun = begun; linked = linked; replaced = replaced }

-- what a write took, where it ended well
pub Appends-run : {W : Type 0} (old new : W) (taken : W → Option (List ℕ)) (failed : W → Bool) (text : List ℕ) (written : Result (Unit {0}) WriteFault)
    → HasRun (run_of written) → WroteAll taken failed old new text written → Appends (taken old) (taken new) text
Appends-run old new taken failed text (Ok done) is wrote = wrote.0
Appends-run old new taken failed text (Err fault) is wrote = absurd is

-- the same of a text whose bytes are not counted
pub Appends-text : {W : Type 0} (old new : W) (taken : W → Option (List ℕ)) (failed : W → Bool) (text : List ℕ) (written : Result (Unit {0}) WriteFault)
    → HasRun (run_of written) → WroteText taken failed old new text written → Appends (taken old) (taken new) text
Appends-text old new taken failed text (Ok done) is wrote = wrote.0
Appends-text old new taken failed text (Err fault) is wrote = absurd is

-- ---- why a file is not in its place

-- a file that cannot be put in its place was not written
IsUnwritten-unplaced : (content : FileContent) (out : List ℕ) (failure : Failure) → IsUnplaced content out failure → IsUnwritten content out failure
IsUnwritten-unplaced content out (BadNumber addresses index) is = is
IsUnwritten-unplaced content out (TooManyAddresses name) is = is
IsUnwritten-unplaced content out (TooLong name) is = is
IsUnwritten-unplaced content out (BadName list index) is = is
IsUnwritten-unplaced content out (Opening name reason) is = is
IsUnwritten-unplaced content out (Reading name) is = is
IsUnwritten-unplaced content out (Writing name) is = is
IsUnwritten-unplaced content out (SameFile name) is = is
IsUnwritten-unplaced content out (MapOverFile name) is = is
IsUnwritten-unplaced content out Printing is = is
IsUnwritten-unplaced content out (Tool fault) is = subst (λ f. IsUnwritten content out (Tool f)) (sym is) tt

-- why OUT was not written, from what the write returned
pub IsUnwritten-cause : (content : FileContent) (out : List ℕ) (failure : Failure) (written : Result (Unit {0}) WriteFault) → IsCauseOf (run_of written) content out failure → IsUnwritten content out failure
unfolding IsUnwritten-unplaced
IsUnwritten-cause content out failure (Ok done) unplaced = IsUnwritten-unplaced content out failure unplaced
IsUnwritten-cause content out failure (Err (Device count)) (inl cause) = subst (IsUnwritten content out) (sym cause.0) (cause.1 tt)
IsUnwritten-cause content out failure (Err (write_fault.OutOfMemory count)) (inl cause) = subst (IsUnwritten content out) (sym cause.0) tt
IsUnwritten-cause content out failure (Err fault) (inr cause) = IsUnwritten-unplaced content out failure cause.1

-- what is told of a map that cannot be put in its place
IsUnmapped-unplaced : (content : FileContent) (map : Bor (List ℕ)) (failure : Failure) → IsUnplaced content map.now failure → IsUnmapped content map.now (map_failure map failure)
IsUnmapped-unplaced content map (BadNumber addresses index) is = absurd is
IsUnmapped-unplaced content map (TooManyAddresses name) is = absurd is
IsUnmapped-unplaced content map (TooLong name) is = absurd is
IsUnmapped-unplaced content map (BadName list index) is = absurd is
IsUnmapped-unplaced content map (Opening name reason) is = is
IsUnmapped-unplaced content map (Reading name) is = absurd is
IsUnmapped-unplaced content map (Writing name) is = absurd is
IsUnmapped-unplaced content map (SameFile name) is = absurd is
IsUnmapped-unplaced content map (MapOverFile name) is = absurd is
IsUnmapped-unplaced content map Printing is = (refl, is)
IsUnmapped-unplaced content map (Tool fault) is = subst (λ f. IsUnmapped content map.now (map_failure map (Tool f))) (sym is) tt

-- and of one that was not written, from what the write returned
pub IsUnmapped-cause : (content : FileContent) (map : Bor (List ℕ)) (failure : Failure) (written : Result (Unit {0}) WriteFault) → IsCauseOf (run_of written) content map.now failure → IsUnmapped content map.now (map_failure map failure)
unfolding IsUnmapped-unplaced
IsUnmapped-cause content map failure (Ok done) unplaced = IsUnmapped-unplaced content map failure unplaced
IsUnmapped-cause content map failure (Err (Device count)) (inl cause) = subst (λ f. IsUnmapped content map.now (map_failure map f)) (sym cause.0) (refl, cause.1 tt)
IsUnmapped-cause content map failure (Err (write_fault.OutOfMemory count)) (inl cause) = subst (λ f. IsUnmapped content map.now (map_failure map f)) (sym cause.0) tt
IsUnmapped-cause content map failure (Err fault) (inr cause) = IsUnmapped-unplaced content map failure cause.1

-- ---- OUT

module _ (globals : Bool) (options : LinkOptions) (linked file : List FileHunk) (short : IsShortEnough linked) (out : List ℕ) (contents between : Contents) (written : IsWrittenOut options linked out contents between file) where
  -- the bytes of OUT are those of the load file that these files make
  linked_out : (files : List (List ℕ)) → LinkTo globals options.strip linked files → IsLinked globals options written.start written.taken files
  linked_out files to = record {
    units = to.units;
    link = to.link;
    is_load = subst (λ hunks. IsLoadOf (trimmed_if options.trim hunks) (bytes_of (written_in (form_of options) (trimmed_if options.trim hunks)))) to.file_is
        (linked_bytes-are_load (form_of options) options.trim linked (subst IsLoadFile written.file_is written.valid) short);
    written = subst (λ hunks. Appends written.start written.taken (bytes_of (written_in (form_of options) (trimmed_if options.trim hunks)))) to.file_is
        (subst (λ hunks. Appends written.start written.taken (bytes_of (written_in (form_of options) hunks))) written.file_is written.written);
  }

  pub IsMade-written : (names : List (List ℕ)) → DoLinkTo globals options.strip contents names linked → IsMade globals options contents names out between
  IsMade-written names links = record {
    start = written.start;
    taken = written.taken;
    begun = written.begun;
    linked = OfWholeFiles-weaker contents names (LinkTo globals options.strip linked) (IsLinked globals options written.start written.taken) linked_out links;
    replaced = written.replaced;
  }

-- ---- MAP

-- the units with their places make the same load file as the units alone
link_to : (globals strip : Bool) (units : List FileUnit) (linked : List FileHunk) (files : List (List ℕ)) → LinkFiles globals strip units linked files → LinkTo globals strip linked files
link_to globals strip units linked files links = record { units = units_of links.units; link = links.link; file_is = links.file_is }

pub DoLinkTo-files : (globals strip : Bool) (contents : Contents) (units : List FileUnit) (linked : List FileHunk) (names : List (List ℕ)) → DoLinkFiles globals strip contents names units linked → DoLinkTo globals strip contents names linked
DoLinkTo-files globals strip contents units linked names links =
    OfWholeFiles-weaker contents names (LinkFiles globals strip units linked) (LinkTo globals strip linked) (link_to globals strip units linked) links

module _ (globals : Bool) (options : LinkOptions) (units : List FileUnit) (linked file : List FileHunk) (short : IsShortEnough linked) (out map : List ℕ) (contents between contents_then : Contents)
    (written : IsWrittenOut options linked out contents between file) (names : List (List ℕ)) (has_map : HasMap names file units map between contents_then) where
  -- The map of the units that were read is that of the units that were linked.
  same_map : (read : List FileUnit) → units ≡ linked_files globals options.strip read → HasMap names file read map between contents_then
  same_map read are = record {
    start = has_map.start;
    taken = has_map.taken;
    begun = has_map.begun;
    written = subst (Appends has_map.start has_map.taken) (ap (map_text names file) are ∙ map_text-linked globals options.strip names file read) has_map.written;
    replaced = has_map.replaced;
  }

  with_map : (files : List (List ℕ)) → LinkFiles globals options.strip units linked files → IsLinkedWithMap globals options names written.start written.taken map between contents_then files
  unfolding linked_out link_to same_map
  with_map files links = record {
    linked = linked_out globals options linked file short out contents between written files (link_to globals options.strip units linked files links);
    units = links.units;
    are = links.are;
    units_are = refl;
    has_map = subst (λ hunks. HasMap names (trimmed_if options.trim hunks) links.units map between contents_then) links.file_is
        (subst (λ hunks. HasMap names hunks links.units map between contents_then) written.file_is (same_map links.units links.linked_are));
  }

  pub IsMapped-written : (files : List (List ℕ)) → DoLinkFiles globals options.strip contents files units linked → IsMapped globals options names contents files out map contents_then
  IsMapped-written files links = record {
    between = between;
    start = written.start;
    taken = written.taken;
    begun = written.begun;
    linked = OfWholeFiles-weaker contents files (LinkFiles globals options.strip units linked) (IsLinkedWithMap globals options names written.start written.taken map between contents_then) with_map links;
    replaced = written.replaced;
  }

-- ---- a map that is not in its place

module _ (globals : Bool) (options : LinkOptions) (contents between contents_then : Contents) (names : List (List ℕ)) (out map : List ℕ) (unchanged : AreUnchanged between contents_then) where
  -- what was put in the place of OUT stays there
  made_still : IsMade globals options contents names out between → IsMade globals options contents names out contents_then
  made_still made = record {
    start = made.start;
    taken = made.taken;
    begun = made.begun;
    linked = made.linked;
    replaced = record {
      placed = λ is_known. unchanged out ∙ made.replaced.placed is_known;
      others = λ other differs. unchanged other ∙ made.replaced.others other differs;
    };
  }

  map_failure_after : (failure : Failure) → IsMade globals options contents names out between → IsUnmapped (between map) map failure → IsMapFailure globals options contents names out map contents_then failure
  map_failure_after failure made why = inr (made_still made, subst (λ content. IsUnmapped content map failure) (sym (unchanged map)) why)

pub IsMapFailure-unmapped : (globals : Bool) (options : LinkOptions) (contents between contents_then : Contents) (names : List (List ℕ)) (out map : List ℕ) (result : Result (Unit {0}) Failure)
    → OnErr result (AreUnchanged between contents_then) → IfErr result (IsUnmapped (between map) map) → IsMade globals options contents names out between → IfErr result (IsMapFailure globals options contents names out map contents_then)
unfolding map_failure_after
IsMapFailure-unmapped globals options contents between contents_then names out map (Ok done) unchanged why made = tt
IsMapFailure-unmapped globals options contents between contents_then names out map (Err failure) unchanged why made =
    map_failure_after globals options contents between contents_then names out map unchanged failure made why
