pub mod Listing
pub mod DifferenceText
pub mod Laws
