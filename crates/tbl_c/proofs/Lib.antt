pub mod Loosely
pub mod Values
pub mod Stepping
