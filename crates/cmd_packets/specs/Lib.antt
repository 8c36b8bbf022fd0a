pub mod Alike
pub mod Vectors
pub mod Views
