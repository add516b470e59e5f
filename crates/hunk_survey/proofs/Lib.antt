pub mod DigestLawsLemmas
pub mod FindLemmas
pub mod NamedLemmas
pub mod StrangerLemmas
pub mod SurveyLemmas
