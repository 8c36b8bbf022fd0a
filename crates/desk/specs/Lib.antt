pub mod Desk
pub mod Limits
pub mod Questions
pub mod Requests
pub mod Rooms
pub mod Rows
