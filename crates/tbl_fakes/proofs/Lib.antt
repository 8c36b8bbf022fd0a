pub mod Leaving
pub mod Noted
pub mod Pasts
