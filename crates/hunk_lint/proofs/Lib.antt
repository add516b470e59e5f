pub mod HunkLintExamples
pub mod HunkLintSizeLemmas
pub mod LintExamples
pub mod LintTextLemmas
pub mod LintedLemmas
pub mod LintsLemmas
pub mod RunLemmas
pub mod WatchLemmas
