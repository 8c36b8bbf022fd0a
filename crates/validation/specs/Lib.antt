pub mod Kits
pub mod Asked
pub mod Ready
pub mod Pends
