pub mod Generator
pub mod Drill
pub mod Vectors
