pub mod Chains
pub mod Pieces
pub mod NameFields
mod Checks
mod Words
pub mod PacketLaws
pub mod HeaderLaws
