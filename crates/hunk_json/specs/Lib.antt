pub mod ContentOffsets
pub mod Document
pub mod Escapes
pub mod FileJson
pub mod Laws
pub mod Page
pub mod Run
