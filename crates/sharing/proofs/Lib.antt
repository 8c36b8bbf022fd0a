pub mod Functions
pub mod GivenUp
pub mod Names
pub mod Running
pub mod Options
pub mod Plans
pub mod Uncritical
