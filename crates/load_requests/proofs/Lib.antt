pub mod Admission
pub mod Asking
pub mod Commanded
pub mod Uplinked
