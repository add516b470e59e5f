pub mod AssemblerLemmas
pub mod BootLemmas
pub mod MachineLemmas
