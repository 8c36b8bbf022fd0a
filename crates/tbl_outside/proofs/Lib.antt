pub mod BankCalls
pub mod Counts
pub mod Moments
pub mod Pieces
pub mod Streams
