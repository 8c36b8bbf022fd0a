pub mod Requests
pub mod Reports
pub mod Effects
