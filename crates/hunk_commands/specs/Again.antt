-- What is read once more to explain a failure, and why it is not.
use Rattle.std.specs.Prelude.{◌≡◌, ◌⊎◌, ℕ, List, length, true, ⊤, Option, Some, None, Contains, false}
use Rattle.hunk_base.specs.Streams.{HasRead}
use Rattle.hunk_base.specs.declared.fault.Fault.{Fault}
use Rattle.hunk_base.specs.declared.fault.ReadFault.{ReadFault}
use Rattle.hunk_base.specs.Longwords.{longwords, unfinished}
use Rattle.hunk_words.specs.Decoder.{RefusesRead}
use Rattle.hunk_words.specs.FirstOffence.{FirstOffence}
use Rattle.hunk_words.specs.declared.event.FileKind.{FileKind}
use Rattle.hunk_words.specs.declared.event.FileKind.TheVariants.{Load}
use Rattle.hunk_files.specs.Explanation.{Explains}
use Rattle.hunk_files.specs.declared.explanation.Explanation.{Explanation}
use Rattle.hunk_tool.specs.FileSystem.{FileContent, MayBeMissing, OfFile}
use Rattle.hunk_tool.specs.Inputs.{IsInputFault}
use Rattle.hunk_tool.specs.ObjectFiles.{AreFileUnits, FileUnit}
use Rattle.hunk_store.specs.Addresses.{AreUnopened, IsAddressesFailure, AddressSource}
use Rattle.hunk_store.specs.Inputs.{IsOpenFailure, OfFiles, OfWholeFiles}
use Rattle.hunk_store.specs.Store.{Contents}
use Rattle.hunk_store.specs.declared.failure.Failure.{Failure}
use Rattle.hunk_store.specs.declared.failure.Failure.TheVariants.{Tool}
use Rattle.hunk_commands.specs.Link.{AreUnlinked}
use Rattle.hunk_commands.specs.Unexplained.{unexplained_of, unexplained_of_read}
use Rattle.hunk_commands.specs.declared.unexplained.Unexplained.{Unexplained}
use Rattle.hunk_commands.specs.declared.unexplained.Unexplained.TheVariants.{Changed, NotRegular, OutOfMemory}

-- Why files are not read again: memory ran out; or the first holds, since a file is not a regular one; or the
-- second, since a file cannot be read, or is not what it was.
abbrev pub IsNotAgain : (Irregular Differs : Type 0) → Unexplained → Type 0
IsNotAgain Irregular Differs OutOfMemory = ⊤
IsNotAgain Irregular Differs NotRegular = Irregular
IsNotAgain Irregular Differs Changed = Differs

-- reading files again failed for a reason of which this holds, and which is not memory
pub record FailsAgain (Why : Failure → Type 0) : Type 0 where
  pub failure : Failure
  pub why : Why failure
  pub differs : unexplained_of failure ≡ Changed

-- ---- one file

-- why it is not opened again
abbrev pub IsNotOpenedAgain : FileContent → Unexplained → Type 0
IsNotOpenedAgain content OutOfMemory = ⊥
IsNotOpenedAgain content why = MayBeMissing content

-- this fault is the first offence of the bytes
abbrev pub IsOffence : FileKind → Fault → List ℕ → Type 0
IsOffence kind fault bytes = FirstOffence kind (longwords bytes) (length (unfinished bytes)) fault.place fault.reason

-- what is given of this fault: an explanation of the bytes, of which it is the first offence, or none
abbrev pub IsGiven : (kind_of : List ℕ → FileKind) → Fault → Option Explanation → List ℕ → Type 0
IsGiven kind_of fault (Some e) bytes = (e.fault ≡ fault) × Explains (kind_of bytes) e bytes
IsGiven kind_of fault None bytes = IsOffence (kind_of bytes) fault bytes → ⊥

-- the fault is not the first offence of what was read of it again
abbrev pub HasOtherOffence : (kind_of : List ℕ → FileKind) → Fault → FileContent → Type 0
HasOtherOffence kind_of fault content = OfFile content (λ input. HasRead input.left input.left_then (IsGiven kind_of fault None))

-- why its offence is not explained
abbrev pub IsNotExplained : FileContent → (kind_of : List ℕ → FileKind) → Fault → Unexplained → Type 0
IsNotExplained content kind_of fault = IsNotAgain (MayBeMissing content) (MayBeMissing content ⊎ HasOtherOffence kind_of fault content)

-- it is refused as a load file
abbrev pub IsNoLoadFile : FileContent → Type 0
IsNoLoadFile content =
    OfFile content (λ input. (fault : ReadFault) × RefusesRead Load input.left input.left_then input.ended input.failed fault × (unexplained_of_read fault ≡ Changed))

-- why it is not known again as a load file
abbrev pub IsNotLoadedAgain : FileContent → Unexplained → Type 0
IsNotLoadedAgain content = IsNotAgain (MayBeMissing content) (MayBeMissing content ⊎ IsNoLoadFile content)

-- ---- several files

-- one of the files may not be there
abbrev pub MayLack : Contents → (files : List (List ℕ)) → Type 0
MayLack contents files = (name : List ℕ) × Contains files name × MayBeMissing (contents name)

-- one of the files is no regular file
abbrev pub IsIrregular : Contents → (files : List (List ℕ)) → Unexplained → Type 0
IsIrregular contents files why = MayLack contents files × (why ≡ NotRegular)

-- the files are object files with these units
abbrev pub HaveUnits : Contents → (files : List (List ℕ)) → List FileUnit → Type 0
HaveUnits contents files units = OfWholeFiles contents files (AreFileUnits units)

-- why the units of the files are not known: one of the files cannot be opened, or one is refused
abbrev pub AreNoUnits : Contents → (files : List (List ℕ)) → Failure → Type 0
AreNoUnits contents files (Tool fault) = IsOpenFailure contents files (Tool fault) ⊎ OfFiles contents files (λ inputs. IsInputFault inputs fault)
AreNoUnits contents files failure = IsOpenFailure contents files failure

abbrev pub AreNoUnitsAgain : Contents → (files : List (List ℕ)) → Unexplained → Type 0
AreNoUnitsAgain contents files = IsNotAgain (MayLack contents files) (FailsAgain (AreNoUnits contents files))

-- why the load file of the files is not known again
abbrev pub IsNotLinkedAgain : Contents → (files : List (List ℕ)) → Unexplained → Type 0
IsNotLinkedAgain contents files = IsNotAgain (MayLack contents files) (FailsAgain (AreUnlinked false true contents files))

-- ---- hunks beside addresses

-- the addresses are in a file that may not be there
abbrev pub MayLackAddresses : Contents → AddressSource → Type 0
MayLackAddresses contents source = (name : List ℕ) × AreUnopened contents source name

-- why the addresses are not known again
abbrev pub AreNoAddressesAgain : Contents → AddressSource → Unexplained → Type 0
AreNoAddressesAgain contents source = IsNotAgain (MayLackAddresses contents source) (FailsAgain (IsAddressesFailure contents source))

-- why hunks are not told beside these addresses: the addresses are not known again, or this holds of the hunks
abbrev pub IsNotPlacedAgain : Contents → AddressSource → (AreNoHunks : Unexplained → Type 0) → Unexplained → Type 0
IsNotPlacedAgain contents source AreNoHunks why = AreNoAddressesAgain contents source why ⊎ AreNoHunks why
