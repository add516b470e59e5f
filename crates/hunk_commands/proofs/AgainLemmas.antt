-- Why files are not read once more.
use Rattle.std.proofs.Common.{◌≡◌, ◌⊎◌, ℕ, List, Bool, true, false, if◌then◌else◌, IsTrue, inl, inr, refl, sym, subst}
use Rattle.hunk_base.specs.declared.fault.Fault.{Fault}
use Rattle.hunk_base.specs.declared.fault.ReadFault.{ReadFault}
use Rattle.hunk_base.specs.declared.fault.ReadFault.TheVariants as read_fault
use Rattle.hunk_base.specs.declared.fault.Refusal.TheVariants as refusal_is
use Rattle.hunk_words.specs.Decoder.{RefusesRead}
use Rattle.hunk_words.specs.declared.event.FileKind.{FileKind}
use Rattle.hunk_words.specs.declared.event.FileKind.TheVariants.{Load}
use Rattle.hunk_files.specs.Explanation.{IsUnexplained}
use Rattle.hunk_tool.specs.FileSystem.{FileContent, IsReaderOf, MayBeMissing}
use Rattle.hunk_tool.specs.Inputs.{Input}
use Rattle.hunk_store.specs.Store.{Contents}
use Rattle.hunk_store.specs.declared.failure.Failure.{Failure}
use Rattle.hunk_commands.specs.Again.{FailsAgain, IsIrregular, IsNotAgain, IsNotExplained, IsNotLoadedAgain, IsNotOpenedAgain, MayLack}
use Rattle.hunk_commands.specs.Unexplained.{is_exhausted, unexplained_of, unexplained_of_read}
use Rattle.hunk_commands.specs.declared.unexplained.Unexplained.{Unexplained}
use Rattle.hunk_commands.specs.declared.unexplained.Unexplained.TheVariants.{Changed, NotRegular, OutOfMemory}

module _ (Irregular : Type 0) (Why : Failure → Type 0) where
  fails : (failure : Failure) (b : Bool) → is_exhausted failure ≡ b → Why failure → IsNotAgain Irregular (FailsAgain Why) (unexplained_of failure)
  fails failure true is why = subst (λ b. IsNotAgain Irregular (FailsAgain Why) (if b then OutOfMemory else Changed)) (sym is) tt
  fails failure false is why =
      subst (λ b. IsNotAgain Irregular (FailsAgain Why) (if b then OutOfMemory else Changed)) (sym is) (record { failure = failure; why = why; differs = subst (λ b. (if b then OutOfMemory else Changed) ≡ Changed) (sym is) refl })

  -- reading them again failed so
  pub fails_again : (failure : Failure) (told : Unexplained) → told ≡ unexplained_of failure → Why failure → IsNotAgain Irregular (FailsAgain Why) told
  fails_again failure told is why = subst (IsNotAgain Irregular (FailsAgain Why)) (sym is) (fails failure (is_exhausted failure) refl why)

-- a file is not opened again
pub not_opened : (content : FileContent) (Differs : Type 0) (told : Unexplained) → IsNotOpenedAgain content told → IsNotAgain (MayBeMissing content) (MayBeMissing content ⊎ Differs) told
not_opened content Differs OutOfMemory is = absurd is
not_opened content Differs NotRegular is = is
not_opened content Differs Changed is = inl is

-- one of the files is no regular file
pub irregular : (contents : Contents) (files : List (List ℕ)) (Differs : Type 0) (told : Unexplained) → IsIrregular contents files told → IsNotAgain (MayLack contents files) Differs told
irregular contents files Differs told (lack, is) = subst (IsNotAgain (MayLack contents files) Differs) (sym is) lack

-- a read of a file failed, of which nothing is known then
lacks : (content : FileContent) (input : Input) → IsReaderOf content input → IsTrue input.failed → MayBeMissing content
lacks content input reader failing = subst MayBeMissing (sym (reader.may_fail failing)) tt

-- a file was not read again as a load file
pub not_loaded : (content : FileContent) (input : Input) (fault : ReadFault) (told : Unexplained) → told ≡ unexplained_of_read fault → IsReaderOf content input
    → RefusesRead Load input.left input.left_then input.ended input.failed fault → IsNotLoadedAgain content told
not_loaded content input (read_fault.Refused (refusal_is.Fault fault)) told is reader refuses =
    subst (IsNotLoadedAgain content) (sym is) (inr (record { input = input; is_reader = reader; holds = (read_fault.Refused (refusal_is.Fault fault), refuses, refl) }))
not_loaded content input (read_fault.Refused refusal_is.OutOfMemory) told is reader refuses = subst (IsNotLoadedAgain content) (sym is) tt
not_loaded content input read_fault.Device told is reader refuses = subst (IsNotLoadedAgain content) (sym is) (inl (lacks content input reader refuses))

-- a file was not read again to the end of an explanation
pub not_explained : (content : FileContent) (kind_of : List ℕ → FileKind) (fault : Fault) (input : Input) (read : ReadFault) (told : Unexplained) → told ≡ unexplained_of_read read → IsReaderOf content input
    → IsUnexplained input.failed read → IsNotExplained content kind_of fault told
not_explained content kind_of fault input (read_fault.Refused (refusal_is.Fault other)) told is reader stopped = absurd stopped
not_explained content kind_of fault input (read_fault.Refused refusal_is.OutOfMemory) told is reader stopped = subst (IsNotExplained content kind_of fault) (sym is) tt
not_explained content kind_of fault input read_fault.Device told is reader stopped = subst (IsNotExplained content kind_of fault) (sym is) (inl (lacks content input reader stopped))
