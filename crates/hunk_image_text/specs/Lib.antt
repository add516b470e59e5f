pub mod Record
pub mod Rows
pub mod ImageText
