pub mod Digest
pub mod Finding
pub mod FindingJson
pub mod FindingLine
pub mod Laws
pub mod Tally
