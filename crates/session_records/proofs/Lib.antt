pub mod Spelled
pub mod Dropping
