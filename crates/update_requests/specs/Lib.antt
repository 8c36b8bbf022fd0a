pub mod Activations
pub mod Judging
pub mod Management
pub mod Questions
pub mod Rooms
pub mod Validations
