pub mod Banks
pub mod Breaking
pub mod Calls
pub mod Contents
pub mod Notes
pub mod Past
pub mod Troubles
