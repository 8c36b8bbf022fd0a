pub mod Looks
pub mod Report
pub mod Watching
