pub mod Apps
pub mod Finding
pub mod Leaving
pub mod Registering
