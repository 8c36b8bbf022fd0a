pub mod Counters
pub mod Puts
pub mod Telling
