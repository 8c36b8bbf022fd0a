pub mod Validators
pub mod Verdicts
pub mod Kit
