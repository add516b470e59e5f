-- The status after a request that was not done, and where memory ran out.
use Rattle.std.proofs.Common.{◌≡◌, ◌∙◌, [], ap, Bool, List, Option, refl, subst, sym, ℕ}
use Rattle.hunk_tool.specs.declared.tool_fault.ToolFault.TheVariants as tool_fault
use Rattle.hunk_store.specs.Failure.{failure_line, status_of, TellsLine}
use Rattle.hunk_store.specs.declared.failure.Failure.{Failure}
use Rattle.hunk_store.specs.declared.failure.Failure.TheVariants.{Tool}
use Rattle.hunk_commands.specs.Request.{IsFailed, IsFailedWith}
use Rattle.hunk_commands.proofs.ExplainLemmas.{IsAfter, tells_after, tells_line_alone}

-- the failure that memory ran out was told
pub out_of_memory_told : {W : Type 0} (taken : W → Option (List ℕ)) (failed : W → Bool) (old new : W) (names : List (List ℕ)) (failure : Failure) (status : ℕ)
    → failure ≡ Tool (tool_fault.OutOfMemory 0) → status ≡ status_of failure → TellsLine taken failed old new (failure_line names failure)
    → (status ≡ 4) × TellsLine taken failed old new (failure_line [] (Tool (tool_fault.OutOfMemory 0)))
out_of_memory_told taken failed old new names failure status is ends told =
    (ends ∙ ap status_of is, subst (λ f. TellsLine taken failed old new (failure_line names f)) is told)

-- a request was not done, and its failure was told with the names of the files, and then explained
pub is_failed : {W : Type 0} (taken : W → Option (List ℕ)) (failed : W → Bool) (AreMore : Failure → List ℕ → Type 0) (files names : List (List ℕ)) (status : ℕ) (old between new : W) (failure : Failure)
    → names ≡ files → status ≡ status_of failure → TellsLine taken failed old between (failure_line names failure) → IsAfter taken failed between new (AreMore failure)
    → IsFailed taken failed old new (λ told. told ≡ failure) AreMore files status
is_failed taken failed AreMore files names status old between new failure same status_is told after =
    let both = tells_after taken failed old between new (failure_line files failure) (AreMore failure)
    (subst (λ x. TellsLine taken failed old between (failure_line x failure)) same told) after in
    record { failure = failure; why = refl; status_is = status_is; more = both.0; is_more = both.1; line = both.2 }

-- a request for some files was not done, and no more than the line of its failure was told; its status is this
-- one of the failure
pub fails_with : {W : Type 0} (status_for : Failure → ℕ) (taken : W → Option (List ℕ)) (failed : W → Bool) (Why : Failure → Type 0) (AreMore : Failure → List ℕ → Type 0) (files : List (List ℕ)) (status : ℕ) (old new : W) (failure : Failure)
    → Why failure → AreMore failure [] → status ≡ status_for failure → TellsLine taken failed old new (failure_line files failure) → IsFailedWith status_for taken failed old new Why AreMore files status
fails_with status_for taken failed Why AreMore files status old new failure why none status_is told = record {
  failure = failure;
  why = why;
  status_is = status_is;
  more = [];
  is_more = none;
  line = tells_line_alone taken failed old new (failure_line files failure) told;
}

module _ {W : Type 0} (taken : W → Option (List ℕ)) (failed : W → Bool) (Why : Failure → Type 0) (AreMore : Failure → List ℕ → Type 0) (files : List (List ℕ)) (status : ℕ) where
  -- a request for some files was not done, and no more than the line of its failure was told
  pub fails_with_line : (old new : W) (failure : Failure) → Why failure → AreMore failure [] → status ≡ status_of failure → TellsLine taken failed old new (failure_line files failure)
      → IsFailed taken failed old new Why AreMore files status
  fails_with_line old new failure why none status_is told = fails_with status_of taken failed Why AreMore files status old new failure why none status_is told

  -- it was not begun, since memory ran out
  pub not_begun : (old new : W) → Why (Tool (tool_fault.OutOfMemory 0)) → AreMore (Tool (tool_fault.OutOfMemory 0)) [] → (status ≡ 4) × TellsLine taken failed old new (failure_line [] (Tool (tool_fault.OutOfMemory 0)))
      → IsFailed taken failed old new Why AreMore files status
  not_begun old new why none told = fails_with_line old new (Tool (tool_fault.OutOfMemory 0)) why none told.0 told.1

  -- what holds of the failure that was told
  pub IsFailed-why : (old new : W) (failure : Failure) → Why failure → IsFailed taken failed old new (λ told. told ≡ failure) AreMore files status → IsFailed taken failed old new Why AreMore files status
  IsFailed-why old new failure why told = record {
    failure = told.failure;
    why = subst Why (sym told.why) why;
    status_is = told.status_is;
    more = told.more;
    is_more = told.is_more;
    line = told.line;
  }
