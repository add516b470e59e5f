pub mod Oddity
pub mod Watch
pub mod Lints
pub mod Linted
pub mod HunkLintLines
pub mod HunkLint
pub mod LintText
pub mod Run
