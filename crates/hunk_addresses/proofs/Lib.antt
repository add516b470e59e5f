pub mod BasesFileLemmas
pub mod BasesLemmas
pub mod PartDigitsLemmas
pub mod PlacesTextLemmas
