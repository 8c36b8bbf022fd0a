pub mod Images
pub mod Dumps
pub mod Housekeeping
pub mod Registry
