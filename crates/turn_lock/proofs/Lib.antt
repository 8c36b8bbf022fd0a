pub mod Lists
pub mod Paths
pub mod Steps
pub mod CallSteps
