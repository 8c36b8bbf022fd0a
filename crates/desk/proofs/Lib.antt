pub mod Asked
pub mod Buffers
pub mod ByName
pub mod Kits
pub mod Quiet
pub mod Serving
