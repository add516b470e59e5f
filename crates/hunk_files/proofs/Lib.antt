pub mod CountersLemmas
pub mod FileDecoderLemmas
pub mod PathLemmas
pub mod FollowerLemmas
pub mod HunkFileLemmas
pub mod WatchedLemmas
pub mod WatchedReaderLemmas
pub mod WatchedFileLemmas
