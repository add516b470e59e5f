-- What the run over OUT returned, and whether OUT was replaced.
use Rattle.std.proofs.Common.{◌≡◌, ℕ, List, Option, Ok, Err, OnOk, IfErr, Result, inl, inr, sym, subst}
use Rattle.std.specs.declared.alloc.Global.{Global}
use Rattle.hunk_base.specs.Streams.{HasRead}
use Rattle.hunk_base.proofs.StreamsLemmas.{HasRead-weaker}
use Rattle.hunk_loadfile.specs.LoadFile.{IsLoadOf}
use Rattle.hunk_loadfile.specs.LoadHunk.{FileHunk}
use Rattle.hunk_tool.specs.Copy.{CopyFits, IsCopied, IsCopyCutShort, IsCopyFault}
use Rattle.hunk_tool.specs.FileSystem.{IsReaderOf}
use Rattle.hunk_tool.specs.FileSystem.FileContent.{unknown}
use Rattle.hunk_tool.specs.Inputs.{Input}
use Rattle.hunk_tool.specs.declared.copy.CopyForm.{CopyForm}
use Rattle.hunk_tool.specs.declared.tool_fault.ToolFault.{ToolFault}
use Rattle.hunk_tool.specs.declared.tool_fault.ToolFault.TheVariants as tool_fault
use Rattle.hunk_store.specs.Output.{Printed, ends_between}
use Rattle.hunk_store.specs.Store.{Contents, HasRun, IsBegun, IsCauseOf, IsReplaced, IsWriteFault}
use Rattle.hunk_store.specs.declared.failure.Failure.{Failure}
use Rattle.hunk_store.specs.declared.failure.Failure.TheVariants.{Tool}
use Rattle.hunk_commands.specs.Copy.{HasCopy, IsCopiedOut, IsCopyFailure}
use Rattle.std.specs.Prelude.{IsTrue}

module _ (form : CopyForm) (contents : Contents) (file out : List ℕ) (input : Input) (is_reader : IsReaderOf (contents file) input) where
  -- a copy that was made was put in the place of OUT
  pub IsCopiedOut-run : (start taken : Option (List ℕ)) (contents_then : Contents) (result : Result (Unit {0}) Failure) (ran : Result (Unit {0}) (ToolFault Global)) → IsBegun (contents out) start
      → OnOk ran (HasRead input.left input.left_then (IsCopied form start taken)) → OnOk ran (IsTrue input.ended) → OnOk result (HasRun ran) → OnOk result (IsReplaced out taken contents contents_then)
      → OnOk result (IsCopiedOut form contents file out contents_then)
  IsCopiedOut-run start taken contents_then (Err failure) ran begun copied ended has_run replaced = tt
  IsCopiedOut-run start taken contents_then (Ok done) (Err fault) begun copied ended has_run replaced = absurd has_run
  IsCopiedOut-run start taken contents_then (Ok done) (Ok end) begun copied ended has_run replaced = record {
    start = start;
    taken = taken;
    begun = begun;
    copied = record { input = input; is_reader = is_reader; holds = (copied, ended) };
    replaced = replaced;
  }

  uncopied : (printed : Printed) (fault : ToolFault Global) → IsCopyFault form (ends_between input printed) fault → (IsWriteFault fault → contents out ≡ unknown) → IsCopyFailure form contents file out (Tool fault)
  uncopied printed fault why device = inl (inr (record { input = input; is_reader = is_reader; holds = (printed, why) }, device))

  -- a copy of the file can be written, since this much of it was
  has_copy : (Holds : List ℕ → Type 0) → ((bytes : List ℕ) → Holds bytes → (hunks : List FileHunk) × IsLoadOf hunks bytes × CopyFits form hunks)
      → HasRead input.left input.left_then Holds → IsTrue input.ended → HasCopy form contents file
  has_copy Holds gives read ended =
      record { input = input; is_reader = is_reader; holds = (HasRead-weaker input.left input.left_then Holds (λ bytes. (hunks : List FileHunk) × IsLoadOf hunks bytes × CopyFits form hunks) gives read, ended) }

  -- a write of the run failed, so the file has a copy
  has_copy_where_written : (printed : Printed) (fault : ToolFault Global) → IsWriteFault fault → IsCopyFault form (ends_between input printed) fault → HasCopy form contents file
  unfolding has_copy
  has_copy_where_written printed (tool_fault.Output written) is why = has_copy (IsCopyCutShort form printed.old printed.new written) (λ bytes cut. (cut.hunks, cut.is_file, cut.fits)) why.1 why.0
  has_copy_where_written printed (tool_fault.Input number fault) is why = absurd is
  has_copy_where_written printed (tool_fault.InputDevice number) is why = absurd is
  has_copy_where_written printed (tool_fault.Link refusal) is why = absurd is
  has_copy_where_written printed (tool_fault.Place fault) is why = absurd is
  has_copy_where_written printed (tool_fault.OutOfMemory written) is why = absurd is

  pub IsCopyFailure-run : (printed : Printed) (failure : Failure) (ran : Result (Unit {0}) (ToolFault Global))
      → OnOk ran (HasRead input.left input.left_then (IsCopied form printed.old printed.new)) → OnOk ran (IsTrue input.ended) → IfErr ran (IsCopyFault form (ends_between input printed))
      → IsCauseOf ran (contents out) out failure → IsCopyFailure form contents file out failure
  unfolding uncopied has_copy_where_written
  IsCopyFailure-run printed failure (Ok done) copied ended why is = inr (has_copy (IsCopied form printed.old printed.new) (λ bytes made. (made.hunks, made.is_file, made.fits)) copied ended, is)
  IsCopyFailure-run printed failure (Err fault) copied ended why (inl cause) = subst (IsCopyFailure form contents file out) (sym cause.0) (uncopied printed fault why cause.1)
  IsCopyFailure-run printed failure (Err fault) copied ended why (inr cause) = inr (has_copy_where_written printed fault cause.0 why, cause.1)
