pub mod Assembler
pub mod Boot
pub mod Debugger
pub mod Emulator
pub mod Machine
