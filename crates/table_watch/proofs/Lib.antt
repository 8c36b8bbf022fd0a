pub mod LookLaws
pub mod Words
