pub mod Surviving
pub mod Trouble
pub mod Serving
pub mod Opening
