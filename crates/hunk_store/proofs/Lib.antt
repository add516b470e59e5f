pub mod AddressesLemmas
pub mod FailureLemmas
pub mod InputsLemmas
pub mod NameReaderLemmas
pub mod ListedNamesLemmas
mod MemoryStoreLemmas
