pub mod Later
pub mod Left
