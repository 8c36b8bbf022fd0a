pub mod Asking
pub mod Loads
