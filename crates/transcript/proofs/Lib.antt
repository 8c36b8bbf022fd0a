pub mod Pieces
pub mod Fields
pub mod Around
