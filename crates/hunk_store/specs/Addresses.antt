-- Where the addresses of hunks come from, what is known of them, and why they are not known.
use Rattle.std.specs.Prelude.{◌≡◌, ℕ, Bool, IsTrue, List, Option, Some, map}
use Rattle.hunk_base.specs.Streams.{HasRead}
use Rattle.hunk_addresses.specs.Bases.{IsBasesFault, numbers}
use Rattle.hunk_addresses.specs.BasesFile.{IsFileOf, IsRejected}
use Rattle.hunk_tool.specs.FileSystem.{MayBeMissing, OfFile}
use Rattle.hunk_tool.specs.Inputs.{Input, WasRead}
use Rattle.hunk_addresses.specs.declared.bases.BasesFault.TheVariants as bases_fault
use Rattle.hunk_addresses.specs.declared.bases_file.BasesFileFault.{BasesFileFault}
use Rattle.hunk_addresses.specs.declared.bases_file.BasesFileFault.TheVariants as file_fault
use Rattle.hunk_tool.specs.declared.tool_fault.ToolFault.TheVariants.{OutOfMemory}
use Rattle.hunk_store.specs.Store.{Contents}
use Rattle.hunk_store.specs.declared.addresses.Addresses.{Addresses}
use Rattle.hunk_store.specs.declared.addresses.Addresses.TheVariants as addresses
use Rattle.hunk_store.specs.declared.failure.Failure.{Failure}
use Rattle.hunk_store.specs.declared.failure.Failure.TheVariants.{BadNumber, Opening, Reading, TooLong, TooManyAddresses, Tool}

-- addresses are in this list, or in the file with this name
pub data AddressSource : Type 0 where
  in_list : List ℕ → AddressSource
  in_file : List ℕ → AddressSource

abbrev pub source_of : Addresses → AddressSource
source_of (addresses.List list) = in_list list.now
source_of (addresses.File name) = in_file name.now

-- a reader before and after a call, as the other three tell of it
abbrev pub input_of : {R : Type 0} (left : R → Option (List ℕ)) (failed ended : R → Bool) (old new : R) → Input
input_of left failed ended old new =
    record { left = left old; left_then = left new; failed = failed new; ended = ended new }

-- the bytes of a reader, up to its end, are a file of these addresses
abbrev pub HasNumbers : Input → List ℕ → Type 0
HasNumbers input bases = (bytes : List ℕ) × WasRead input bytes × IsFileOf bases bytes

-- the bytes of a reader are rejected as a file of addresses
abbrev pub IsNoFile : Input → BasesFileFault → Type 0
IsNoFile input fault = HasRead input.left input.left_then (λ bytes. IsRejected bytes fault)

-- the first part of the bytes of a reader that is no number has this index
abbrev pub HasBadPart : Input → ℕ → Type 0
HasBadPart input index = IsNoFile input (file_fault.Refused (bases_fault.BadNumber index))

-- each part of the addresses is a number, and these are the numbers
abbrev pub HaveNumbers : Contents → AddressSource → List ℕ → Type 0
HaveNumbers contents (in_list list) bases = numbers list ≡ map Some bases
HaveNumbers contents (in_file name) bases = OfFile (contents name) (λ input. HasNumbers input bases)

-- the first part of the addresses that is no number has this index
abbrev pub HaveBadPart : Contents → AddressSource → ℕ → Type 0
HaveBadPart contents (in_list list) index = IsBasesFault list (bases_fault.BadNumber index)
HaveBadPart contents (in_file name) index = OfFile (contents name) (λ input. HasBadPart input index)

-- each part of the addresses is a number, and this holds of the numbers
pub record AtBases (contents : Contents) (source : AddressSource) (Holds : List ℕ → Type 0) : Type 0 where
  pub bases : List ℕ
  pub numbers_are : HaveNumbers contents source bases
  pub holds : Holds bases

-- the addresses are in the file with this name, which cannot be opened
abbrev pub AreUnopened : Contents → AddressSource → (name : List ℕ) → Type 0
AreUnopened contents source name = (source ≡ in_file name) × MayBeMissing (contents name)

-- the addresses are in the file with this name, of which a read failed
abbrev pub AreUnread : Contents → AddressSource → (name : List ℕ) → Type 0
AreUnread contents source name = (source ≡ in_file name) × OfFile (contents name) (λ input. IsTrue input.failed)

-- the addresses are in the file with this name, which is rejected
abbrev pub AreRefused : Contents → AddressSource → (name : List ℕ) → BasesFileFault → Type 0
AreRefused contents source name fault = (source ≡ in_file name) × OfFile (contents name) (λ input. IsNoFile input fault)

-- why the addresses are not known: a part of them is no number, their file has too many or is too long,
-- cannot be opened or a read of it failed, or out of memory
abbrev pub IsAddressesFailure : Contents → AddressSource → Failure → Type 0
IsAddressesFailure contents source (BadNumber found index) = (source_of found ≡ source) × HaveBadPart contents source index
IsAddressesFailure contents source (TooManyAddresses name) = AreRefused contents source name.now file_fault.TooMany
IsAddressesFailure contents source (TooLong name) = AreRefused contents source name.now file_fault.TooLong
IsAddressesFailure contents source (Opening name reason) = AreUnopened contents source name.now
IsAddressesFailure contents source (Reading name) = AreUnread contents source name.now
IsAddressesFailure contents source (Tool fault) = fault ≡ OutOfMemory 0
IsAddressesFailure contents source _ = ⊥

-- why the addresses in a list are not known
abbrev pub IsListFailure : List ℕ → Failure → Type 0
IsListFailure list (BadNumber found index) = (source_of found ≡ in_list list) × IsBasesFault list (bases_fault.BadNumber index)
IsListFailure list (Tool fault) = fault ≡ OutOfMemory 0
IsListFailure list _ = ⊥

-- why the addresses that the reader of the file with this name has are not known
abbrev pub IsReadFailure : (name : List ℕ) → Input → Failure → Type 0
IsReadFailure name input (BadNumber found index) = (source_of found ≡ in_file name) × HasBadPart input index
IsReadFailure name input (TooManyAddresses file) = (file.now ≡ name) × IsNoFile input file_fault.TooMany
IsReadFailure name input (TooLong file) = (file.now ≡ name) × IsNoFile input file_fault.TooLong
IsReadFailure name input (Reading file) = (file.now ≡ name) × IsTrue input.failed
IsReadFailure name input (Tool fault) = fault ≡ OutOfMemory 0
IsReadFailure name input _ = ⊥
