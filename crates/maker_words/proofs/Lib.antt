pub mod Lengths
pub mod Answering
