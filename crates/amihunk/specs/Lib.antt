pub mod Program
pub mod Syntax
pub mod Call
pub mod StandardInput
pub mod CommandLine
pub mod Arguments
