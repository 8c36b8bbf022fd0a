pub mod Asking
pub mod Dumping
pub mod Filing
pub mod Records
pub mod Unasked
