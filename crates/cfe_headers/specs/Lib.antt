pub mod Appends
pub mod Faults
pub mod FileHeaders
pub mod Fronts
pub mod Readings
pub mod Vectors
