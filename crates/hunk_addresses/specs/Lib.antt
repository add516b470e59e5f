pub mod PlacesText
pub mod Bases
pub mod BasesFile
pub mod PartDigits
